-- Moving values inside their fields changes no finding (02 W3): what the rules find in a record rests on what its fields hold.
-- Assumes nothing.
use mathlib.Core.Path.{◌≡◌, refl, ap, ◌∙◌}
use mathlib.Core.List.{List, [], ◌∷◌}
use Prim.Native.Nat.{ℕ}
use Rattle.record.specs.declared.Field.{Field}
use Rattle.record.specs.Fields.{is_voided_check, check_symbol_number, check_first_serial_number, check_serial_number}
use Rattle.record.specs.Value.{held}
use Rattle.reasons.specs.declared.Finding.{Finding}
use Rattle.reasons.specs.declared.Reason.{Reason}
use Rattle.reasons.specs.Findings.{Checked, found}
use Rattle.rules.specs.declared.Context.{Context}
use Rattle.rules.specs.Rules.{Rule, Test, reason, findings}

-- two records hold the same in a field
abbrev pub Same : List ℕ → List ℕ → Field → Type 0
Same rec other f = held rec f ≡ held other f

-- in the fields that the rules hold others against
pub record Beside (rec other : List ℕ) : Type 0 where
  pub voided : Same rec other is_voided_check
  pub symbol : Same rec other check_symbol_number
  pub first : Same rec other check_first_serial_number
  pub serial : Same rec other check_serial_number

-- in the fields of these rules
abbrev pub InRules : List ℕ → List ℕ → List Rule → Type 0
InRules rec other [] = Unit {0}
InRules rec other (r ∷ rs) = Same rec other r.position × InRules rec other rs

module _ (c : Context) (rec other : List ℕ) (b : Beside rec other) where
  same_reason : (t : Test) (v : List ℕ) → reason c rec t v ≡ reason c other t v
  unfolding reason
  same_reason Test.Required v = refl
  same_reason Test.Digits v = refl
  same_reason Test.NoBlank v = refl
  same_reason Test.Dashed v = refl
  same_reason Test.Created v = refl
  same_reason Test.Accounting v = refl
  same_reason Test.Issued v = refl
  same_reason Test.Routing v = refl
  same_reason (Test.Listed values) v = refl
  same_reason (Test.IfListed values) v = refl
  same_reason (Test.IfCoded values) v = refl
  same_reason Test.IfPostal v = refl
  same_reason Test.IfDigits v = refl
  same_reason (Test.InBook k) v = refl
  same_reason (Test.IfInBook k) v = refl
  same_reason Test.IfReporter v = refl
  same_reason Test.ReporterBetc v = refl
  same_reason Test.AboveZero v = refl
  same_reason Test.CheckLimit v = rw b.voided
  same_reason Test.Symbol v = refl
  same_reason Test.Unrepeated v = refl
  same_reason Test.HeaderNumber v = rw (b.symbol, b.first)
  same_reason Test.PaymentNumber v = rw b.serial
  same_reason Test.Serial v = refl
  same_reason Test.Count v = refl
  same_reason Test.Sum v = refl

  -- two records that hold the same draw the same findings, whatever the rules are
  pub moved_findings : (n : ℕ) (rs : List Rule) → InRules rec other rs → findings c n rec rs ≡ findings c n other rs
  unfolding findings
  moved_findings n [] h = refl
  moved_findings n (r ∷ rs) h =
      ap (λ (v : List ℕ). found (reason c rec r.test v) n r.field ∷ findings c n rec rs) h.0
      ∙ ap (λ (k : Checked Reason). found k n r.field ∷ findings c n rec rs) (same_reason r.test (held other r.position))
      ∙ ap (λ (fs : List (Checked Finding)). found (reason c other r.test (held other r.position)) n r.field ∷ fs) (moved_findings n rs h.1)
