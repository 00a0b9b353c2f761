use Rattle.std.proofs.Common.{◌≡◌, ◌++◌, Bool, List, [], ℕ, length, take, ap, refl, sym, ◌∙◌, subst, arith}
use Rattle.std.proofs.lemmas.List.{length-append}
use Rattle.fit_grammar.specs.Format.Item.{Item}
use Rattle.fit_grammar.specs.Format.Records.{Records, in_force}
use Rattle.fit_mending.specs.declared.pieces.Piece.{Piece}
use Rattle.fit_mending.specs.Pieces.{ArePieces, AreWithin, CutsAfter, kept_row}
use Rattle.fit_mending.specs.Others.{AreOthers, IsFirstRide, own_front}
use Rattle.fit_mending.proofs.Cut.{are_within, row_length}
use Rattle.fit_mending.proofs.Rows.{records_append}
use Rattle.fit_mending.proofs.skipping.skip_faults.Goals as goal

pub row_of-requires : goal.row_of-requires
row_of-requires c =
    let bytes = c.args.bytes.now in
    let found = c.in_ok-cut_after.ensures.cut in
    let before = c.requires.known.0 in
    let cuts = found.2 before (c.latest_after-latest.ensures before c.requires.known.1) in
    subst (AreWithin bytes) (sym (c.as_slice.ensures.value ∙ found.1))
    (are_within bytes c.args.front (length bytes) before found.0 cuts.cut.0 cuts.cut.1.are_pieces)

pub other_rides-requires : goal.other_rides-requires
other_rides-requires c =
    let bytes = c.args.bytes.now in
    let found = c.in_ok-cut_after.ensures.cut in
    let before = c.requires.known.0 in
    let cuts = found.2 before (c.latest_after-latest.ensures before c.requires.known.1) in
    subst (AreWithin bytes) (sym (c.as_slice-2.ensures.value ∙ found.1))
    (are_within bytes c.args.front (length bytes) before found.0 cuts.cut.0 cuts.cut.1.are_pieces)

-- the new row spells what is known, and then what is kept
row_spells : (known bytes row : List ℕ) (front : ℕ) (trusted : Bool) (before : List Item) (pieces : List Piece)
    → row ≡ known ++ kept_row bytes pieces → Records known before → (cuts : CutsAfter before bytes front trusted pieces)
    → Records row (before ++ cuts.cut.0)
row_spells known bytes row front trusted before pieces is are cuts =
    subst (λ (l : List ℕ). Records l (before ++ cuts.cut.0)) (sym is)
    (records_append [] known before (kept_row bytes pieces) cuts.cut.0 are cuts.cut.1.are_records)

pub returns : goal.returns
returns c =
    let bytes = c.args.bytes.now in
    let known = c.args.known.now in
    let front = c.args.front in
    let found = c.in_ok-cut_after.ensures.cut in
    let row = c.in_ok-row.ensures ∙ ap (λ (ps : List Piece). known ++ kept_row bytes ps) c.as_slice.ensures.value in
    let cuts : (before : List Item) → Records known before
    → CutsAfter before bytes front c.args.trusted c.cut_after.new.pieces.items = λ before are.
    subst (CutsAfter before bytes front c.args.trusted) (sym found.1) (found.2 before (c.latest_after-latest.ensures before are)) in
    let most = row_length bytes front _ (cuts c.requires.known.0 c.requires.known.1).cut in
    record {
      skipped = record {
        row_is = row;
        known_is = refl;
        after = λ before are. record {
          cuts = cuts before are;
          are_records = row_spells known bytes _ front c.args.trusted before _ row are (cuts before are);
        };
      };
      looks = omega arith;
      short = omega (arith, ap length row, length-append known (kept_row bytes c.cut_after.new.pieces.items), most);
      others = record {
        own = c.own_ride.result;
        is_own = subst (λ (l : List ℕ). IsFirstRide (in_force []) (take own_front l) c.own_ride.result) c.as_slice-3.ensures.value c.own_ride.ensures;
        are = λ before are.
            subst (λ (ps : List Piece). AreOthers bytes c.own_ride.result before ps c.in_ok-others.others.items) c.as_slice-2.ensures.value
            (c.in_ok-others.ensures before front (length bytes) (cuts before are).cut.0 (c.latest_after-latest.ensures before are)
            (subst (λ (ps : List Piece). ArePieces bytes front (length bytes) before ps (cuts before are).cut.0)
            (sym c.as_slice-2.ensures.value) (cuts before are).cut.1.are_pieces));
      };
    }
