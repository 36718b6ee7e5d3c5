-- The sieve and the records before a place: every detail of the class has its marks, so an ID that lacks one is new.
-- Assumes nothing.
use mathlib.Core.Path.{◌≡◌, refl, sym, ◌∙◌}
use mathlib.Core.Bool.{Bool, true, false, not, true≢false}
use mathlib.Core.List.{List, [], ◌∷◌, ◌++◌}
use Prim.Native.Nat.{ℕ, ◌+◌, ◌/◌, ◌%◌, ◌≤◌}
use borrow.Author.Tests.{not-false, eq-eqb, ne_eqb}
use lib.Dec.{eqb}
use lib.ListN.{length}
use Rattle.record.specs.Choice.{◌and◌, ◌or◌, choose}
use Rattle.record.specs.Tests.{alike}
use Rattle.record.proofs.Chain.{and_left, and_right, and_false}
use Rattle.record.proofs.Same.{alike_equal}
use Rattle.nesting.specs.Division.{Record}
use Rattle.nesting.specs.Records.{cut, record_at}
use Rattle.nesting.proofs.Cuts.{cut_snoc}
use Rattle.tables.specs.Tables.{member}
use Rattle.repeats.specs.declared.Sort.TheVariants.{Payments}
use Rattle.repeats.specs.Repeats.{is_of, numbers, repeats}
use Rattle.repeats.specs.Sieve.{id_of, hash_of, has_marks, with_marks, class_of, in_class, is_suspect, sifted, AllMarked, repeats_in, most_walks, Tried}
use Rattle.repeats.proofs.Marks.{marks_length, marks_keep, marks_own}
use Rattle.repeats.proofs.Walks.{member_choose}

-- what a sift finds and leaves: of another sort, of another class, or of the class
module _ (classes class : ℕ) (sieve : List ℕ) (r : Record) where
  module _ (w : in_class classes class r ≡ false) where
    other_answer : false ≡ is_suspect classes class sieve r
    unfolding is_suspect ◌and◌
    other_answer = sym (rw w)

    other_after : sieve ≡ sifted classes class sieve r
    unfolding sifted choose
    other_after = sym (rw w)

  other_sort : is_of Payments r ≡ false → in_class classes class r ≡ false
  unfolding in_class ◌and◌
  other_sort o = rw o

  pub sort_answer : is_of Payments r ≡ false → false ≡ is_suspect classes class sieve r
  sort_answer o = other_answer (other_sort o)

  pub sort_after : is_of Payments r ≡ false → sieve ≡ sifted classes class sieve r
  sort_after o = other_after (other_sort o)

  module _ (hash : ℕ) (o : is_of Payments r ≡ true) (h : hash ≡ hash_of (id_of r)) where
    by_class : eqb (hash / 562949953421312 % classes) class ≡ in_class classes class r
    unfolding in_class class_of ◌and◌
    by_class = sym (rw (o, h))

    module _ (n : hash / 562949953421312 % classes ≡ class → ⊥) where
      pub class_answer : false ≡ is_suspect classes class sieve r
      class_answer = other_answer (sym by_class ∙ ne_eqb _ class n)

      pub class_after : sieve ≡ sifted classes class sieve r
      class_after = other_after (sym by_class ∙ ne_eqb _ class n)

    module _ (q : hash / 562949953421312 % classes ≡ class) where
      in_class_holds : in_class classes class r ≡ true
      in_class_holds = sym by_class ∙ eq-eqb _ class q

      pub own_answer : (b : Bool) → b ≡ has_marks sieve hash → b ≡ is_suspect classes class sieve r
      unfolding is_suspect ◌and◌
      own_answer b m = rw (in_class_holds, ← h) m

      pub own_after : (after : List ℕ) → after ≡ with_marks sieve hash → after ≡ sifted classes class sieve r
      unfolding sifted choose
      own_after after m = rw (in_class_holds, ← h) m

-- one record more, and what a missing mark says
module _ (classes class : ℕ) where
  keep : (sieve : List ℕ) (rs : List Record) (r : Record) → in_class classes class r ≡ false → AllMarked classes class sieve rs → AllMarked classes class sieve (rs ++ r ∷ [])
  unfolding AllMarked
  keep sieve [] r w m = (λ e. absurd (true≢false (sym e ∙ w)), tt)
  keep sieve (x ∷ rs) r w m = (m.0, keep sieve rs r w m.1)

  add : (sieve : List ℕ) (rs : List Record) (r : Record) → length sieve ≡ 1024 → AllMarked classes class sieve rs → AllMarked classes class (with_marks sieve (hash_of (id_of r))) (rs ++ r ∷ [])
  unfolding AllMarked
  add sieve [] r n m = (λ e. marks_own sieve n (hash_of (id_of r)), tt)
  add sieve (x ∷ rs) r n m = (λ e. marks_keep sieve n (hash_of (id_of r)) (hash_of (id_of x)) (m.0 e), add sieve rs r n m.1)

  module _ (sieve : List ℕ) (x : Record) (w : eqb (class_of classes (id_of x)) class ≡ true) (n : has_marks sieve (hash_of (id_of x)) ≡ false) where
    differs : (r : Record) (d : Bool) (rest : Bool) → is_of Payments r ≡ d → (in_class classes class r ≡ true → has_marks sieve (hash_of (id_of r)) ≡ true) → rest ≡ false
        → ((d and alike (id_of r) (id_of x)) or rest) ≡ false
    unfolding ◌and◌ ◌or◌ in_class
    differs r false rest e m q = q
    differs r true rest e m q = go (alike (id_of r) (id_of x)) refl
      where
        go : (a : Bool) → alike (id_of r) (id_of x) ≡ a → (a or rest) ≡ false
        go false g = q
        go true g =
            let s : id_of r ≡ id_of x = alike_equal (id_of r) (id_of x) g in
            let v : (is_of Payments r and eqb (class_of classes (id_of r)) class) ≡ true = rw (e, s) w in
            absurd (true≢false (sym (m v) ∙ rw s n))

    missed : (rs : List Record) → AllMarked classes class sieve rs → member (id_of x) (numbers Payments rs) ≡ false
    unfolding AllMarked numbers member
    missed [] m = refl
    missed (r ∷ rs) m =
        member_choose (is_of Payments r) (id_of x) (id_of r) (numbers Payments rs) ∙ differs r (is_of Payments r) (member (id_of x) (numbers Payments rs)) refl m.0 (missed rs m.1)

-- the record at the place: of another class, new, or walked for; and the marks after it
module _ (classes class first : ℕ) (xs : List ℕ) where
  pub marked_none : (sieve : List ℕ) → AllMarked classes class sieve (cut first 0 xs)
  unfolding AllMarked cut
  marked_none sieve = tt

  module _ (place : ℕ) where
    in_other : in_class classes class (record_at first place xs) ≡ false → false ≡ repeats_in classes class first xs place
    unfolding repeats_in ◌and◌
    in_other w = sym (rw w)

    in_walked : (r : Bool) → in_class classes class (record_at first place xs) ≡ true → r ≡ repeats Payments (cut first place xs) (record_at first place xs)
        → r ≡ repeats_in classes class first xs place
    unfolding repeats_in ◌and◌
    in_walked r w e = sym (rw w (sym e))

    in_new : (sieve : List ℕ) → has_marks sieve (hash_of (id_of (record_at first place xs))) ≡ false → in_class classes class (record_at first place xs) ≡ true
        → AllMarked classes class sieve (cut first place xs) → false ≡ repeats_in classes class first xs place
    unfolding repeats_in repeats in_class
    in_new sieve n w m =
        let z = missed classes class sieve (record_at first place xs) (and_right _ _ w) n (cut first place xs) m in
        sym (rw (z, and_false (is_of Payments (record_at first place xs))) (and_false _))

    -- a record that is no suspect repeats nothing; a suspect is walked, while the budget lasts
    module _ (sieve : List ℕ) (walks : ℕ) where
      unsuspected : (w n : Bool) → in_class classes class (record_at first place xs) ≡ w → has_marks sieve (hash_of (id_of (record_at first place xs))) ≡ n → (w and n) ≡ false
          → AllMarked classes class sieve (cut first place xs) → false ≡ repeats_in classes class first xs place
      unfolding ◌and◌
      unsuspected false n e f t m = in_other e
      unsuspected true n e f t m = in_new sieve (f ∙ t) e m

      pub tried_new : is_suspect classes class sieve (record_at first place xs) ≡ false → AllMarked classes class sieve (cut first place xs) → walks ≤ most_walks
          → Tried classes class first xs place false walks
      unfolding is_suspect
      tried_new t m h = record { answer = unsuspected _ _ refl refl t m; budget = h }

      pub tried_walked : (s r : Bool) → s ≡ is_suspect classes class sieve (record_at first place xs) → not s ≡ false → walks ≤ most_walks
          → r ≡ repeats Payments (cut first place xs) (record_at first place xs) → Tried classes class first xs place r walks
      unfolding is_suspect
      tried_walked s r q t h e = record { answer = in_walked r (and_left _ _ (sym q ∙ not-false s t)) e; budget = h }

    -- the marks after the record
    module _ (sieve after : List ℕ) (n : length sieve ≡ 1024) (e : after ≡ sifted classes class sieve (record_at first place xs)) where
      grown : (b : Bool) → in_class classes class (record_at first place xs) ≡ b → AllMarked classes class sieve (cut first place xs)
          → AllMarked classes class (choose b (with_marks sieve (hash_of (id_of (record_at first place xs)))) sieve) (cut first place xs ++ record_at first place xs ∷ [])
      unfolding choose
      grown true w m = add classes class sieve (cut first place xs) (record_at first place xs) n m
      grown false w m = keep classes class sieve (cut first place xs) (record_at first place xs) w m

      pub grow : AllMarked classes class sieve (cut first place xs) → AllMarked classes class after (cut first (place + 1) xs)
      unfolding sifted
      grow m = rw (cut_snoc first place xs, e) (grown _ refl m)

      sized : (b : Bool) (hash : ℕ) → length (choose b (with_marks sieve hash) sieve) ≡ 1024
      unfolding choose
      sized true hash = marks_length sieve n hash
      sized false hash = n

      pub sifted_length : length after ≡ 1024
      unfolding sifted
      sifted_length = rw e (sized _ _)
