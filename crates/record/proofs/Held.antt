-- The laws of `written` and `held` that crates above rest on.
-- Assumes nothing.
use mathlib.Core.Path.{◌≡◌, refl, ◌∙◌, sym, ap}
use mathlib.Core.Bool.{Bool, true, false, true≢false, not}
use mathlib.Core.List.{List, [], ◌∷◌, ◌++◌}
use Prim.Native.Nat.{ℕ, ◌+◌, ◌-◌, ◌≤◌}
use native.Mathlib.Omega.{arith}
use borrow.Author.Tests.{not-true, ne_eqb}
use lib.ListN.{length, take, drop, replicate, length-take, length-drop}
use lib.Seq.{take-add, drop-drop}
use Rattle.record.specs.declared.Field.{Field}
use Rattle.record.specs.declared.Line.{Line}
use Rattle.record.specs.declared.Justification.TheVariants.{Fixed}
use Rattle.page.specs.CodePage.{shown}
use Rattle.record.specs.Choice.{◌and◌}
use Rattle.record.specs.Correction.{corrected}
use Rattle.record.specs.Fields.{record_code}
use Rattle.record.specs.Moved.{in_place, readable}
use Rattle.record.specs.Tests.{every, only, alike, blank, digit, digits}
use Rattle.record.specs.Value.{Has, written, held}
use Rattle.page.proofs.Shown.{shown_length, shown_take, shown_drop}
use Rattle.record.proofs.Chain.{and_left, and_right}
use Rattle.record.proofs.Corrected.{corrected_length, corrected_stays, blank_corrected, blank_all}
use Rattle.record.proofs.Every.{digit_range}
use Rattle.record.proofs.Parts.{digits_stand}

-- a field that the record has is as many bytes as it is wide, and so is what it holds
pub written_length : (ascii : Bool) (rec : List ℕ) (f : Field) → Has rec f → length (written (shown ascii rec) f) ≡ f.width
unfolding written
written_length ascii rec f h = simp (length-take, length-drop, shown_length) (omega arith)

pub held_length : (ascii : Bool) (rec : List ℕ) (f : Field) → Has rec f → length (held (shown ascii rec) f) ≡ f.width
unfolding held
held_length ascii rec f h = corrected_length f.justification (written (shown ascii rec) f) ∙ written_length ascii rec f h

-- digits are not blank
pub filled_digits : (xs : List ℕ) → 1 ≤ length xs → digits xs ≡ true → blank xs ≡ false
unfolding digits only every ◌and◌
filled_digits [] h e = absurd (omega arith)
filled_digits (x ∷ xs) h e = ap (λ (b : Bool). b and only 0x40 xs) (ne_eqb x 0x40 (λ q. absurd (omega (arith, q, digit_range x (and_left (digit x) (digits xs) e)))))

-- a blank field holds blanks, and no digits
module _ (ascii : Bool) (rec : List ℕ) (f : Field) (h : Has rec f) (r : Bool) (e : r ≡ blank (held (shown ascii rec) f)) (t : r ≡ true) where
  pub holds_blanks : replicate f.width 0x40 ≡ held (shown ascii rec) f
  holds_blanks = ap (λ (n : ℕ). replicate n 0x40) (sym (held_length ascii rec f h)) ∙ blank_all (held (shown ascii rec) f) (sym e ∙ t)

  pub holds_no_digits : 1 ≤ f.width → digits (held (shown ascii rec) f) ≡ false
  holds_no_digits w = go (digits (held (shown ascii rec) f)) refl
    where
      go : (d : Bool) → digits (held (shown ascii rec) f) ≡ d → digits (held (shown ascii rec) f) ≡ false
      go false q = q
      go true q = absurd (true≢false (sym t ∙ e ∙ filled_digits _ (omega (arith, held_length ascii rec f h)) q))

-- a field of a record as the rules see it: its own bytes as they see them
pub written_shown : (ascii : Bool) (rec : List ℕ) (f : Field) → shown ascii (take f.width (drop (f.start - 1) rec)) ≡ written (shown ascii rec) f
unfolding written
written_shown ascii rec f = shown_take ascii f.width (drop (f.start - 1) rec) ∙ ap (take f.width) (shown_drop ascii (f.start - 1) rec)

-- two fields side by side are the bytes of the stretch of both, whatever its justification
pub written_beside : (rec : List ℕ) (f g : Field) → f.start - 1 + f.width ≡ g.start - 1
    → written rec (record { start = f.start; width = f.width + g.width; justification = Fixed }) ≡ written rec f ++ written rec g
unfolding written
written_beside rec f g e = take-add f.width g.width (drop (f.start - 1) rec) ∙ rw (drop-drop f.width (f.start - 1) rec, e)

-- fields of the same bytes hold the same
pub held_alike : (rec other : List ℕ) (f : Field) → written rec f ≡ written other f → held rec f ≡ held other f
unfolding held
held_alike rec other f e = ap (corrected f.justification) e

-- what is fixed is held as it stands
pub held_fixed : (rec : List ℕ) (f : Field) → f.justification ≡ Fixed → held rec f ≡ written rec f
unfolding held corrected
held_fixed rec f e = rw e

-- bytes that are digits are held as they stand
pub held_digits : (rec : List ℕ) (f : Field) → digits (written rec f) ≡ true → held rec f ≡ written rec f
unfolding held
held_digits rec f e = digits_stand f.justification (written rec f) e

-- moving changes no blankness
pub held_blank : (rec : List ℕ) (f : Field) → blank (held rec f) ≡ blank (written rec f)
unfolding held
held_blank rec f = blank_corrected f.justification (written rec f)

-- what is readable is held as it stands, and it is not translated
module _ (line : Line) (rec : List ℕ) (f : Field) where
  pub unreadable : line.ascii ≡ true → false ≡ readable line f rec
  unfolding readable ◌and◌
  unreadable a = rw a

  pub readable_of : (xs : List ℕ) (r : Bool) → line.ascii ≡ false → xs ≡ written (shown line.ascii rec) f → r ≡ in_place f.justification xs → r ≡ readable line f rec
  unfolding readable shown ◌and◌
  readable_of xs r a e q = q ∙ ap (in_place f.justification) e ∙ rw a

  module _ (e : readable line f rec ≡ true) where
    pub readable_plain : line.ascii ≡ false
    unfolding readable
    readable_plain = not-true line.ascii (and_left (not line.ascii) (in_place f.justification (written rec f)) e)

    pub readable_held : written rec f ≡ held (shown line.ascii rec) f
    unfolding readable held shown
    readable_held =
        let a = readable_plain in
        rw a (sym (corrected_stays f.justification (written rec f) (and_right (not line.ascii) (in_place f.justification (written rec f)) e)))

    -- it is a part of the record
    pub readable_part : (start end : ℕ) → start ≡ f.start - 1 → end ≡ start + f.width → take (end - start) (drop start rec) ≡ held (shown line.ascii rec) f
    unfolding written
    readable_part start end s d =
        let n : end - start ≡ f.width = omega arith in
        rw (n, s) readable_held

-- what a leaf read at the place of the field's bytes, as the field holds it
module _ (rec : List ℕ) (f : Field) (xs : List ℕ) (e : xs ≡ written rec f) where
  pub blank_of : (r : Bool) → r ≡ blank xs → r ≡ blank (held rec f)
  blank_of r q = q ∙ ap blank e ∙ sym (held_blank rec f)

  pub held_of : corrected f.justification xs ≡ held rec f
  unfolding held
  held_of = ap (corrected f.justification) e

  -- where it stands in its place
  pub stands_of : (t : Bool) → t ≡ in_place f.justification xs → t ≡ true → xs ≡ held rec f
  stands_of t q h = sym (corrected_stays f.justification xs (sym q ∙ h)) ∙ held_of

-- a record code is never moved
pub code_of : (rec xs text : List ℕ) (r : Bool) → xs ≡ written rec record_code → r ≡ alike xs text → r ≡ alike (held rec record_code) text
unfolding held corrected
code_of rec xs text r e q = q ∙ ap (λ (ys : List ℕ). alike ys text) e
