-- The loop over the records: what is left of them decides, and the table holds the kinds so far.
-- Assumes nothing.
use mathlib.Core.Path.{◌≡◌, refl, sym, ap, ◌∙◌}
use mathlib.Core.Bool.{Bool, true, false}
use mathlib.Core.List.{List, [], ◌∷◌, ◌++◌}
use Prim.Native.Nat.{ℕ, suc, ◌+◌, ◌-◌, ◌*◌, ◌/◌, ◌≤◌, ◌<◌}
use native.Mathlib.Omega.{arith}
use borrow.Author.Tests.{lt-ltb}
use lib.ListN.{length}
use Rattle.record.specs.declared.codes.Code.{Code}
use Rattle.record.specs.Choice.{choose}
use Rattle.page.specs.CodePage.{shown}
use Rattle.record.specs.Codes.{code_of}
use Rattle.nesting.specs.Records.{cut, record_at}
use Rattle.nesting.proofs.Cuts.{record_from, from_place, onward, cut_onward, cut_start}
use Rattle.tables.specs.declared.Entry.{Entry}
use Rattle.tables.specs.declared.Key.TheVariants.{Kind}
use Rattle.tables.specs.Kind.{kind}
use Rattle.tables.specs.Tables.{Stands, Tabled, member, tells_known, entry_of, count_after, table_after}
use Rattle.tables.proofs.Tables.{Holds, member_again, holds_none, known_is, count_known, holds_known, count_new, holds_new, after_length}
use Rattle.kinds.specs.Kinds.{is_account, kinds, different, crowded}
use Rattle.kinds.specs.Counting.{counted, table_counted}
use Rattle.kinds.proofs.Different.{different_known, different_new, few_uncrowded}

-- the record at the place is a DT, as the code reads it
pub at_place : (ascii : Bool) (first place : ℕ) (xs : List ℕ) (k : Code) (r : Bool) → k ≡ code_of (record_from ascii xs (place * 850)) → r ≡ is_account k
    → r ≡ is_account (code_of (record_at first place (shown ascii xs)))
at_place ascii first place xs k r e h = rw (← from_place ascii first place xs, ← e) h

module _ (first : ℕ) (bytes table : List ℕ) (count place : ℕ) where
  abbrev account : Bool
  account = is_account (code_of (record_at first place bytes))

  -- the results of the code
  pub count_other : account ≡ false → count ≡ counted first bytes table count place
  unfolding counted choose
  count_other o = sym (rw o)

  pub table_other : account ≡ false → table ≡ table_counted first bytes table count place
  unfolding table_counted choose
  table_other o = sym (rw o)

  module _ (o : account ≡ true) where
    pub table_own : (after : List ℕ) → after ≡ table_after first Kind bytes table count place → after ≡ table_counted first bytes table count place
    unfolding table_counted choose
    table_own after a = rw o a

    pub count_own : (n : ℕ) → n ≡ count_after first Kind bytes table count place → n ≡ counted first bytes table count place
    unfolding counted choose
    count_own n q = rw o q

-- the table holds the kinds so far, and what is left of the records decides
pub record Counted (first : ℕ) (bytes : List ℕ) (records place : ℕ) (table : List ℕ) (count : ℕ) : Type 0 where
  pub earlier : List (List ℕ)
  pub holds : Holds first Kind bytes table count earlier
  pub left : different [] (kinds (cut first records bytes)) ≡ count + different earlier (kinds (onward first place (records - place) bytes))
  pub size : length table ≡ 1001

module _ (first : ℕ) (bytes : List ℕ) (records : ℕ) where
  pub counted_none : (table : List ℕ) → length table ≡ 1001 → Counted first bytes records 0 table 0
  counted_none table s =
      let e : records - 0 ≡ records = omega arith in
      record {
        earlier = [];
        holds = holds_none first Kind bytes table (omega arith);
        left = rw (e, ← cut_start first records bytes) (omega arith);
        size = s;
      }

  module _ (place : ℕ) (table : List ℕ) (count : ℕ) (c : Counted first bytes records place table count) where
    pub counted_tabled : Tabled first Kind bytes table count
    counted_tabled = c.holds.tabled

    pub counted_room : count ≤ 1000 → count < length table
    counted_room h = omega (arith, c.size)

    module _ (h : count ≤ 1000) (l : place < records) (s : Stands first place bytes) where
      abbrev here : List ℕ
      here = record_at first place bytes

      abbrev rest : List (List ℕ)
      rest = kinds (onward first (place + 1) (records - (place + 1)) bytes)

      kinds_here : kinds (onward first place (records - place) bytes) ≡ choose (is_account (code_of here)) (kind here ∷ rest) rest
      unfolding kinds
      kinds_here =
          let e : records - place ≡ suc (records - (place + 1)) = omega arith in
          rw (e, cut_onward first place (records - (place + 1)) bytes)

      abbrev entry : Entry
      entry = entry_of first Kind bytes table count place

      abbrev more : ℕ
      more = count_after first Kind bytes table count place

      abbrev grown : List ℕ
      grown = table_after first Kind bytes table count place

      module _ (next : ℕ) (after : List ℕ) where
        -- a DT of a kind that was there, and of a new one
        own : (b : Bool) → tells_known entry ≡ b → next ≡ more → after ≡ grown → is_account (code_of here) ≡ true → Counted first bytes records (place + 1) after next
        unfolding choose
        own true k n t o =
            let m : member (kind here) c.earlier ≡ true = sym (known_is first Kind bytes table count c.earlier place c.holds s entry more grown refl refl refl) ∙ k in
            let x = holds_known first Kind bytes table count c.earlier place c.holds s entry more grown refl refl refl k in
            let z = count_known first Kind bytes table count c.earlier place c.holds s entry more grown refl refl refl k in
            record {
              earlier = c.earlier ++ kind here ∷ [];
              holds = rw (n, t) (record { tabled = x.tabled; same = λ y. x.same y ∙ member_again (kind here) y c.earlier m });
              left = c.left ∙ rw (kinds_here, o, n, z) (ap (λ (i : ℕ). count + i) (different_known c.earlier (kind here) rest m));
              size = rw (t, after_length first Kind bytes table count c.earlier place c.holds s entry more grown refl refl refl) c.size;
            }
        own false k n t o =
            let m : member (kind here) c.earlier ≡ false = sym (known_is first Kind bytes table count c.earlier place c.holds s entry more grown refl refl refl) ∙ k in
            let x = holds_new first Kind bytes table count c.earlier place c.holds s entry more grown refl refl refl k (counted_room h) in
            let z = count_new first Kind bytes table count c.earlier place c.holds s entry more grown refl refl refl k (counted_room h) in
            record {
              earlier = c.earlier ++ kind here ∷ [];
              holds = rw (n, t) x;
              left = c.left ∙ rw (kinds_here, o, n, z, different_new c.earlier (kind here) rest m) (omega arith);
              size = rw (t, after_length first Kind bytes table count c.earlier place c.holds s entry more grown refl refl refl) c.size;
            }

        -- a record of another code
        other : next ≡ count → after ≡ table → is_account (code_of here) ≡ false → Counted first bytes records (place + 1) after next
        unfolding choose
        other n t o = record { earlier = c.earlier; holds = rw (n, t) c.holds; left = c.left ∙ rw (kinds_here, o, n); size = rw t c.size }

        pub counted_next : next ≡ counted first bytes table count place → after ≡ table_counted first bytes table count place → Counted first bytes records (place + 1) after next
        unfolding counted table_counted choose
        counted_next q a = go (is_account (code_of here)) refl
          where
            go : (b : Bool) → is_account (code_of here) ≡ b → Counted first bytes records (place + 1) after next
            go true o = own (tells_known entry) refl (q ∙ rw o) (a ∙ rw o) o
            go false o = other (q ∙ rw o) (a ∙ rw o) o

    -- at the first kind too many, and behind the last record
    module _ (e : records ≡ length bytes / 850) where
      pub counted_crowded : 1000 < count → true ≡ crowded (kinds (cut first (length bytes / 850) bytes))
      unfolding crowded
      counted_crowded h = rw (← e) (sym (lt-ltb 1000 (different [] (kinds (cut first records bytes))) (omega (arith, c.left))))

      pub counted_all : count ≤ 1000 → records ≤ place → false ≡ crowded (kinds (cut first (length bytes / 850) bytes))
      unfolding crowded cut kinds different
      counted_all h l =
          let z : records - place ≡ 0 = omega arith in
          let n : different [] (kinds (cut first records bytes)) ≡ count = c.left ∙ rw z (omega arith) in
          rw (← e) (sym (few_uncrowded (kinds (cut first records bytes)) (omega (arith, n))))
