use Rattle.record.proofs.CodeList.{code_read}
use Rattle.batch.proofs.Laws.{head_read}
use Rattle.batch.proofs.walk.read_header.Goals as goal

pub returns : goal.returns
returns c =
    head_read _ _ _ _ _ _ _ _ _ _ _ _ (code_read _ _ _ c.code_bytes.ensures c.code_of-code.ensures)
    c.letter_in-letter.ensures c.location-payer.ensures
    c.symbol_of-symbol.ensures c.first_serial-serial.ensures c.month_of-month.ensures c.field_amount-amount.ensures
