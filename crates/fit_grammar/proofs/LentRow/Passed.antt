-- The items of a file that were passed over: at the start, after one more, and at the end, where the file is lent.
use Rattle.std.proofs.Common.{◌≡◌, ◌≢◌, ℕ, ◌+◌, ◌-◌, ◌<◌, ◌≤◌, ◌^◌, List, [], ◌∷◌, ◌++◌, length, take, drop, Option, None, refl, sym, ap, subst, ◌∙◌, append_assoc, arith, inl, inr}
use Rattle.std.proofs.Math.Path.{fun_ext}
use Rattle.std.proofs.Math.Seq.{take-append_seam, drop-append_seam}
use Rattle.fit_grammar.specs.declared.definition.Definition.{Definition}
use Rattle.fit_grammar.specs.declared.file.fault.FaultKind.{FaultKind}
use Rattle.fit_grammar.specs.declared.file.fault.FaultKind.TheVariants.{Truncated, HeaderSize, Magic, Protocol, HeaderCrc, UndefinedLocal, SplitMessage, FileCrc, TrailingBytes, Memory}
use Rattle.fit_grammar.specs.declared.file.fault.FileFault.{FileFault}
use Rattle.fit_grammar.specs.declared.file.frame.Frame.{Frame}
use Rattle.fit_grammar.specs.declared.file.header.Header.{Header}
use Rattle.fit_grammar.specs.Format.Item.{Item}
use Rattle.fit_grammar.specs.Format.Records.{in_force, data_size}
use Rattle.fit_grammar.specs.Format.File.{IsFrame}
use Rattle.fit_grammar.specs.Format.Refusal.{IsFaultOf, front_bytes}
use Rattle.fit_grammar.specs.Calls.Possible.{FrameFits, AllCanFollow, CanBeFile}
use Rattle.fit_grammar.specs.Calls.Step.{ItemAtFront}
use Rattle.fit_grammar.specs.Calls.Table.{in_force_after}
use Rattle.fit_grammar.specs.Private.Decoding.{BeginsWith, IsRefusedBy, Reached, WindowShows, fault_of}
use Rattle.fit_grammar.specs.Private.ItemRow.{items_in, AreRead}
use Rattle.fit_grammar.specs.Private.Passing.{PassesItem, HasPassedTo, HasPassedAll, framed_items, end_of}
use Rattle.fit_grammar.proofs.Decoding.Longer.{reached_within}
use Rattle.fit_grammar.proofs.Decoding.Reached.{reached_first, reached_more, records_size}
use Rattle.fit_grammar.proofs.Decoding.Shown.{reached_refused}
use Rattle.fit_grammar.proofs.KeptRow.ByLookup.{in_force_after-in_force}
use Rattle.fit_grammar.proofs.KeptRow.Following.{data_size-push}
use Rattle.fit_grammar.proofs.KeptRow.ReadAgain.{records_by, items_under-read, are_read}
use Rattle.fit_grammar.proofs.LentRow.Fitting.{AreBytes, bytes_apart, records_follow}

-- before the first item
pub passes_first : (b : List ℕ) (h : Header) (f : ℕ → Option Definition) → BeginsWith b h → h.data_size < 2 ^ 32
    → ((l : ℕ) → f l ≡ None) → HasPassedTo f b h h.frame.header_size 0
passes_first b h f p fits none =
    record { items = []; reached = reached_first b h p fits; size_is = refl; in_force_are = fun_ext (λ l. none l) }

-- after one more
pub passes_more : (f g : ℕ → Option Definition) (b : List ℕ) (h : Header) (at size used written : ℕ) → HasPassedTo f b h at size
    → at < end_of h → PassesItem f g (drop at b) (end_of h - at) used written → HasPassedTo g b h (at + used) (size + written)
passes_more f g b h at size used written p lt t =
    let front : ItemAtFront (in_force p.items) (drop at b) t.item used =
    subst (λ (e : ℕ → Option Definition). ItemAtFront e (drop at b) t.item used) p.in_force_are t.at_front in
    record {
      items = p.items ++ t.item ∷ [];
      reached = reached_more b (framed_items h.frame p.items) (framed_items h.frame (p.items ++ t.item ∷ [])) at (end_of h) used p.reached
          (record { item = t.item; at_front = front; inside = t.inside; added = refl }) lt;
      size_is = omega (arith, p.size_is, t.written_is, data_size-push p.items t.item);
      in_force_are = t.taken ∙ ap (in_force_after t.item) p.in_force_are ∙ in_force_after-in_force p.items t.item;
    }

-- a refusal that is no lack of memory
pub refused_of : (b : List ℕ) (fault : FileFault) → IsFaultOf b fault → fault.kind ≢ Memory → IsRefusedBy b fault
refused_of b fault (inl refusal) other = refusal
refused_of b fault (inr memory) other = absurd (other memory.0)

not_memory : (f : ℕ → Option Definition) (window : List ℕ) (left at len : ℕ) (kind : FaultKind) → WindowShows f window left kind
    → (fault_of kind at len).kind ≢ Memory
not_memory f window left at len (UndefinedLocal local) sh = λ e. cc
not_memory f window left at len SplitMessage sh = λ e. cc
not_memory f window left at len Truncated sh = λ e. cc
not_memory f window left at len HeaderSize sh = absurd sh
not_memory f window left at len Magic sh = absurd sh
not_memory f window left at len Protocol sh = absurd sh
not_memory f window left at len HeaderCrc sh = absurd sh
not_memory f window left at len FileCrc sh = absurd sh
not_memory f window left at len TrailingBytes sh = absurd sh
not_memory f window left at len Memory sh = absurd sh

-- at an item that is not passed
pub passing_refused : (f : ℕ → Option Definition) (b : List ℕ) (h : Header) (at size : ℕ) (kind : FaultKind) → HasPassedTo f b h at size
    → at < end_of h → WindowShows f (drop at b) (end_of h - at) kind → IsRefusedBy b (fault_of kind at (length b))
passing_refused f b h at size kind p lt sh =
    let shown = subst (λ (e : ℕ → Option Definition). WindowShows e (drop at b) (end_of h - at) kind) p.in_force_are sh in
    refused_of b (fault_of kind at (length b))
    (reached_refused b (framed_items h.frame p.items) at (end_of h) kind (fault_of kind at (length b)) p.reached lt (inr shown) refl)
    (not_memory f (drop at b) (end_of h - at) at (length b) kind sh)

-- after the last one
pub passes_all : (f : ℕ → Option Definition) (b : List ℕ) (h : Header) (at size : ℕ) → HasPassedTo f b h at size → end_of h ≤ at
    → HasPassedAll b h size
passes_all f b h at size p le =
    let v = framed_items h.frame p.items in
    let there : at ≡ end_of h = omega (arith, (reached_within b v at (end_of h) p.reached).1) in
    record { items = p.items; reached = subst (λ (n : ℕ). Reached b v n (end_of h)) there p.reached; size_is = p.size_is }

-- ---- the file that is lent

-- the bytes of the records
pub records_there : (b : List ℕ) (h : Header) (size : ℕ) (p : HasPassedAll b h size)
    → take h.data_size (drop h.frame.header_size b) ≡ p.reached.front.records
records_there b h size p =
    let r = p.reached in
    let f = r.front in
    let start : h.frame.header_size ≡ length f.header =
    sym (f_whole f.frame h.frame r.frame_is (length f.header) r.is_front.is_header.whole) in
    let count : h.data_size ≡ length f.records = omega (arith, r.at_is, r.end_is, r.is_front.inside, start) in
    let joined : b ≡ f.header ++ (f.records ++ r.rest) = r.joined ∙ append_assoc f.header f.records r.rest in
    ap (λ (n : ℕ). take n (drop h.frame.header_size b)) count
    ∙ ap (λ (n : ℕ). take (length f.records) (drop n b)) start
    ∙ ap (λ (l : List ℕ). take (length f.records) (drop (length f.header) l)) joined
    ∙ ap (take (length f.records)) (drop-append_seam f.header (f.records ++ r.rest))
    ∙ take-append_seam f.records r.rest
  where
    f_whole : (frame other : Frame) → frame ≡ other → (n : ℕ) → n ≡ frame.header_size → n ≡ other.header_size
    f_whole frame other same n is = is ∙ ap (λ (x : Frame). x.header_size) same

-- they are read as the items that were passed
pub items_passed : (b : List ℕ) (h : Header) (size : ℕ) (p : HasPassedAll b h size)
    → items_in (take h.data_size (drop h.frame.header_size b)) ≡ p.items
items_passed b h size p =
    let f = p.reached.front in
    ap items_in (records_there b h size p)
    ∙ items_under-read (in_force []) f.records f.items (records_by [] f.records f.items p.reached.is_front.are_records)
    ∙ p.reached.items_are

pub records_read : (b : List ℕ) (h : Header) (size : ℕ) (p : HasPassedAll b h size)
    → AreRead (in_force []) (take h.data_size (drop h.frame.header_size b))
records_read b h size p =
    let f = p.reached.front in
    subst (AreRead (in_force [])) (sym (records_there b h size p))
    (are_read (in_force []) f.records f.items (records_by [] f.records f.items p.reached.is_front.are_records))

-- and can be those of a file in memory
pub passed_fits : (b : List ℕ) (h : Header) (size : ℕ) (p : HasPassedAll b h size) → FrameFits h.frame → AreBytes b
    → CanBeFile (framed_items h.frame p.items)
passed_fits b h size p frame_fits a =
    let r = p.reached in
    let f = r.front in
    let own = (bytes_apart f.header f.records (bytes_apart (front_bytes f) r.rest (subst AreBytes r.joined a)).0).1 in
    let follow = records_follow [] f.records f.items r.is_front.are_records own in
    record {
      is_frame = subst IsFrame r.frame_is r.is_front.is_header.is_frame;
      frame_fits = frame_fits;
      items_follow = subst (λ (is : List Item). AllCanFollow [] is) r.items_are follow;
      bound = omega (
        arith,
        records_size [] f.records f.items r.is_front.are_records,
        ap data_size r.items_are,
        r.is_front.inside,
        r.fits,
      );
    }
