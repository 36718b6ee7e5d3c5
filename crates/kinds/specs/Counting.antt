-- How the kinds are counted. No promise to other crates rests on it: the proofs tie it to Kinds.antt.
use Rattle.std.specs.Prelude.{ℕ, List}
use Rattle.record.specs.Choice.{choose}
use Rattle.record.specs.Codes.{code_of}
use Rattle.nesting.specs.Records.{record_at}
use Rattle.tables.specs.declared.Key.TheVariants.{Kind}
use Rattle.tables.specs.Tables.{count_after, table_after}
use Rattle.kinds.specs.Kinds.{is_account}

module _ (first : ℕ) (bytes table : List ℕ) (count place : ℕ) where
  -- the kinds so far and the table, with the record at the place
  unfoldable pub counted : ℕ
  counted = choose (is_account (code_of (record_at first place bytes))) (count_after first Kind bytes table count place) count

  unfoldable pub table_counted : List ℕ
  table_counted = choose (is_account (code_of (record_at first place bytes))) (table_after first Kind bytes table count place) table
