-- The frame of a section, test by test.
-- Assumes nothing.
use mathlib.Core.Path.{◌≡◌, refl, sym, ◌∙◌}
use mathlib.Core.Bool.{Bool, true, false}
use mathlib.Core.List.{List}
use Prim.Native.Nat.{ℕ, ◌+◌, ◌-◌, ◌*◌, ◌/◌, ◌%◌, ◌≤◌, ◌<◌}
use native.Mathlib.Nat.{div-add-mod'}
use native.Mathlib.Omega.{arith}
use lib.Dec.{leb, eqb}
use borrow.Author.Tests.{le-leb, lt-leb, eq-eqb, ne_eqb, leb-true, eqb-true}
use lib.ListN.{length}
use Rattle.record.specs.Choice.{◌and◌}
use Rattle.record.proofs.Chain.{and_no, and_yes, and_left, and_right, choose_yes, choose_no}
use Rattle.book.specs.declared.Kind.{Kind}
use Rattle.book.specs.declared.Section.{Section}
use Rattle.book.specs.Reading.{size_at, kind_at, framed, sound_in, section_at, Readable}
use Rattle.book.specs.Book.{past}
use Rattle.std.specs.Prelude.{Some, None}

pub framed_short : (bs : List ℕ) (at : ℕ) (k : Kind) → length bs < at + 6 → false ≡ framed bs at k
unfolding framed
framed_short bs at k h = and_no _ _ (lt-leb (at + 6) (length bs) h)

module _ (bs : List ℕ) (at : ℕ) (k : Kind) (kind : ℕ) (h : at + 6 ≤ length bs) (ek : kind ≡ kind_at bs at) where
  pub framed_other : (kind ≡ k.number → ⊥) → false ≡ framed bs at k
  unfolding framed
  framed_other t = and_yes _ _ _ (le-leb (at + 6) (length bs) h) (and_no _ _ (ne_eqb _ _ (λ q. t (ek ∙ q))))

  module _ (size : ℕ) (t : kind ≡ k.number) (es : size ≡ size_at bs at) where
    rest : (r : Bool) → r ≡ (leb 2 size and leb (at + 4 + size) (length bs) and eqb ((size - 2) % k.entry) 0) → r ≡ framed bs at k
    unfolding framed
    rest r e = and_yes _ _ _ (le-leb (at + 6) (length bs) h) (and_yes _ _ _ (eq-eqb _ _ (sym ek ∙ t)) (e ∙ rw es))

    pub framed_small : size < 2 → false ≡ framed bs at k
    framed_small l = rest false (and_no _ _ (lt-leb 2 size l))

    pub framed_long : 2 ≤ size → length bs < at + 4 + size → false ≡ framed bs at k
    framed_long m l = rest false (and_yes _ _ _ (le-leb 2 size m) (and_no _ _ (lt-leb (at + 4 + size) (length bs) l)))

    pub framed_is : 2 ≤ size → at + 4 + size ≤ length bs → eqb ((size - 2) % k.entry) 0 ≡ framed bs at k
    framed_is m l = rest _ (and_yes _ _ _ (le-leb 2 size m) (and_yes _ _ _ (le-leb (at + 4 + size) (length bs) l) refl))

-- what a frame that stands there says
pub record Frame (bs : List ℕ) (at : ℕ) (k : Kind) : Type 0 where
  pub head : at + 6 ≤ length bs
  pub kind : kind_at bs at ≡ k.number
  pub least : 2 ≤ size_at bs at
  pub all : at + 4 + size_at bs at ≤ length bs
  pub whole : (size_at bs at - 2) / k.entry * k.entry ≡ size_at bs at - 2

pub frame_of : (bs : List ℕ) (at : ℕ) (k : Kind) (r : Bool) → r ≡ framed bs at k → r ≡ true → Frame bs at k
unfolding framed
frame_of bs at k r e t =
    let f = sym e ∙ t in
    let f1 = and_right (leb (at + 6) (length bs)) _ f in
    let f2 = and_right (eqb (kind_at bs at) k.number) _ f1 in
    let f3 = and_right (leb 2 (size_at bs at)) _ f2 in
    let z = eqb-true ((size_at bs at - 2) % k.entry) 0 (and_right (leb (at + 4 + size_at bs at) (length bs)) _ f3) in
    record {
      head = leb-true _ _ (and_left _ _ f);
      kind = eqb-true _ _ (and_left _ _ f1);
      least = leb-true _ _ (and_left _ _ f2);
      all = leb-true _ _ (and_left _ _ f3);
      whole = omega (arith, div-add-mod' (size_at bs at - 2) k.entry, z);
    }

-- a section, and none
module _ (bs : List ℕ) (at : ℕ) (k : Kind) (r : Bool) (e : r ≡ framed bs at k) where
  pub no_frame : r ≡ false → None ≡ section_at bs at k
  unfolding section_at ◌and◌
  no_frame t = choose_no _ _ _ _ (rw (sym e ∙ t)) refl

  module _ (t : r ≡ true) (size : ℕ) (es : size ≡ size_at bs at) where
    abbrev pub s : Section
    s = record { start = at + 6; count = (size - 2) / k.entry; code = k.code; entry = k.entry }

    pub in_frame : at + 6 + (size - 2) / k.entry * k.entry ≤ length bs
    in_frame =
        let f = frame_of bs at k r e t in
        rw es (omega (arith, f.whole, f.all, f.least))

    pub no_section : (b : Bool) → b ≡ sound_in bs s → b ≡ false → None ≡ section_at bs at k
    unfolding section_at ◌and◌
    no_section b q u = choose_no _ _ _ _ (rw (sym e ∙ t) (rw es at (sym q ∙ u))) refl

    pub a_section : (b : Bool) → b ≡ sound_in bs s → b ≡ true → Some s ≡ section_at bs at k
    unfolding section_at ◌and◌
    a_section b q u = choose_yes _ _ _ _ (rw (sym e ∙ t) (rw es at (sym q ∙ u))) (rw es)

    -- the place after it lies in the book
    pub past_inside : Readable bs at → Readable bs (past s)
    unfolding past
    past_inside h = record { inside = in_frame; small = h.small }
