-- How many bytes a finished file has.
use Rattle.std.proofs.Common.{◌≡◌, ℕ, ◌+◌, ◌<◌, ◌≤◌, ◌^◌, List, [], ◌++◌, length, ap, arith}
use Rattle.std.proofs.lemmas.List.{length-append}
use Rattle.std.proofs.lemmas.List.Sums.{sum_by-append}
use Rattle.fit_base.specs.Checksum.{crc}
use Rattle.fit_base.specs.declared.order.Arch.TheVariants.{Little}
use Rattle.fit_grammar.specs.Format.Encoding.{two_bytes, encoded_header, encoded_items, encoded}
use Rattle.fit_grammar.specs.Format.File.{FileValue, FileOf}
use Rattle.fit_grammar.specs.Format.Item.{item_size}
use Rattle.fit_grammar.specs.Format.Records.{data_size}
use Rattle.fit_grammar.proofs.Decoding.Reached.{records_size}
use Rattle.fit_grammar.proofs.Encoder.Encoded.{encoded_items-length, encoded_is_header}
use Rattle.fit_finishing.specs.declared.finishing.Finishing.{Finishing}
use Rattle.fit_finishing.specs.Finished.{IsFinishing, added_by, finished_by, most_closing, most_opening}

-- its records fit
pub few_bytes : (v : FileValue) (f : Finishing) → IsFinishing v f → length (encoded_items (finished_by v f).items) < 2 ^ 32
few_bytes v f is =
    let first = added_by f f.opening in
    let last = added_by f f.closing in
    omega (
      arith,
      encoded_items-length (finished_by v f).items,
      sum_by-append item_size first (v.items ++ last),
      sum_by-append item_size v.items last,
      is.fits.opening_added,
      is.fits.closing_added,
      is.fits.room,
    )

-- it has at most the bytes of the file, of a file_id and of the closing messages
pub finished_length : (bytes : List ℕ) (v : FileValue) (f : Finishing) → FileOf bytes v → IsFinishing v f
    → length (encoded (finished_by v f)) ≤ length bytes + most_opening + most_closing
finished_length bytes v f file is =
    let new = finished_by v f in
    let first = added_by f f.opening in
    let last = added_by f f.closing in
    let whole : length bytes ≡ length ((file.header ++ file.records) ++ file.closing) = ap length file.joined in
    let header = encoded_header v.frame (data_size new.items) in
    let records = encoded_items new.items in
    let own = encoded_is_header v.frame (data_size new.items) file.is_header.is_frame in
    omega (
      arith,
      whole,
      length-append (file.header ++ file.records) file.closing,
      length-append file.header file.records,
      file.is_header.whole,
      file.is_closing.whole,
      records_size [] file.records v.items file.are_records,
      own.whole,
      length-append header records,
      length-append (header ++ records) (two_bytes Little (crc (header ++ records))),
      encoded_items-length new.items,
      sum_by-append item_size first (v.items ++ last),
      sum_by-append item_size v.items last,
      is.fits.opening_added,
      is.fits.closing_added,
    )
