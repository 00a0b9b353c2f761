use Rattle.std.proofs.Common.{ap}
use Rattle.fit_text.proofs.PenLemmas.{puts_then, puts_stop, puts_same}
use Rattle.fit_table.specs.Json.{described_json}
use Rattle.fit_table.proofs.json.developer.put_described.Goals as goal

pub returns-in_err-put_developer_key : goal.returns-in_err-put_developer_key
returns-in_err-put_developer_key g c = puts_stop c.from_residual.ensures.0 c.in_err-put_developer_key.ensures _

pub returns-in_err-put : goal.returns-in_err-put
returns-in_err-put g c = puts_then c.in_ok-put_developer_key.ensures (puts_stop c.from_residual-in_err-put.ensures.0 c.in_err-put.ensures _)

pub returns-in_err-put_string : goal.returns-in_err-put_string
returns-in_err-put_string g c =
    puts_same
    (puts_then c.in_ok-put_developer_key.ensures (puts_then c.in_ok-put.ensures
    (puts_stop c.from_residual-in_err-put_string.ensures.0 (rw c.within.ensures at c.in_err-put_string.ensures) _)))
    (ap (λ d. described_json d (record { index = c.args.field.now.index; number = c.args.field.now.number; arch = c.args.arch; bytes = c.args.bytes.now }))
    c.described.view_is)

pub returns-in_err-put-2 : goal.returns-in_err-put-2
returns-in_err-put-2 g c =
    puts_same
    (puts_then c.in_ok-put_developer_key.ensures (puts_then c.in_ok-put.ensures (puts_then (rw c.within.ensures at c.in_ok-put_string.ensures)
    (puts_stop c.from_residual-in_err-put-2.ensures.0 c.in_err-put-2.ensures _))))
    (ap (λ d. described_json d (record { index = c.args.field.now.index; number = c.args.field.now.number; arch = c.args.arch; bytes = c.args.bytes.now }))
    c.described.view_is)

pub returns-in_err-put_string-2 : goal.returns-in_err-put_string-2
returns-in_err-put_string-2 g c =
    puts_same
    (puts_then c.in_ok-put_developer_key.ensures (puts_then c.in_ok-put.ensures (puts_then (rw c.within.ensures at c.in_ok-put_string.ensures)
    (puts_then c.in_ok-put-2.ensures (puts_stop c.from_residual-in_err-put_string-2.ensures.0 (rw c.within-2.ensures at c.in_err-put_string-2.ensures) _)))))
    (ap (λ d. described_json d (record { index = c.args.field.now.index; number = c.args.field.now.number; arch = c.args.arch; bytes = c.args.bytes.now }))
    c.described.view_is)

pub returns-in_err-put-3 : goal.returns-in_err-put-3
returns-in_err-put-3 g c =
    puts_same
    (puts_then c.in_ok-put_developer_key.ensures (puts_then c.in_ok-put.ensures (puts_then (rw c.within.ensures at c.in_ok-put_string.ensures)
    (puts_then c.in_ok-put-2.ensures (puts_then (rw c.within-2.ensures at c.in_ok-put_string-2.ensures)
    (puts_stop c.from_residual-in_err-put-3.ensures.0 c.in_err-put-3.ensures _))))))
    (ap (λ d. described_json d (record { index = c.args.field.now.index; number = c.args.field.now.number; arch = c.args.arch; bytes = c.args.bytes.now }))
    c.described.view_is)

pub returns-in_err-put_values : goal.returns-in_err-put_values
returns-in_err-put_values g c =
    puts_same
    (puts_then c.in_ok-put_developer_key.ensures (puts_then c.in_ok-put.ensures (puts_then (rw c.within.ensures at c.in_ok-put_string.ensures)
    (puts_then c.in_ok-put-2.ensures (puts_then (rw c.within-2.ensures at c.in_ok-put_string-2.ensures) (puts_then c.in_ok-put-3.ensures
    (puts_stop c.from_residual-in_err-put_values.ensures.0 (rw c.new.ensures at c.in_err-put_values.ensures) _)))))))
    (ap (λ d. described_json d (record { index = c.args.field.now.index; number = c.args.field.now.number; arch = c.args.arch; bytes = c.args.bytes.now }))
    c.described.view_is)

pub returns : goal.returns
returns g c =
    puts_same
    (puts_then c.in_ok-put_developer_key.ensures (puts_then c.in_ok-put.ensures (puts_then (rw c.within.ensures at c.in_ok-put_string.ensures)
    (puts_then c.in_ok-put-2.ensures (puts_then (rw c.within-2.ensures at c.in_ok-put_string-2.ensures) (puts_then c.in_ok-put-3.ensures
    (puts_then (rw c.new.ensures at c.in_ok-put_values.ensures) c.put-4.ensures)))))))
    (ap (λ d. described_json d (record { index = c.args.field.now.index; number = c.args.field.now.number; arch = c.args.arch; bytes = c.args.bytes.now }))
    c.described.view_is)
