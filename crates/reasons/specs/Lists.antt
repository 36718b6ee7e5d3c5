-- The listed values of document 01, in EBCDIC, over the full width of their fields.
use Rattle.std.specs.Prelude.{ℕ, Bool, true, false, ◌&&◌, List, [], ◌∷◌}
use Rattle.record.specs.Choice.{◌or◌}
use Rattle.page.specs.CodePage.{twins}
use Rattle.record.specs.Tests.{alike}

-- one of the values
unfoldable pub one_of : List (List ℕ) → List ℕ → Bool
one_of [] v = false
one_of (x ∷ xs) v = alike v x or one_of xs v

-- values, each with what ASCII files send for it; and the values alone
abbrev pub Text : Type 0
Text = List ℕ × List ℕ

abbrev pub values : List Text → List (List ℕ)
values [] = []
values (t ∷ ts) = t.0 ∷ values ts

-- it is what they send (02 W2)
abbrev pub are_twins : List Text → Bool
are_twins [] = true
are_twins (t ∷ ts) = twins t.1 t.0 && are_twins ts

-- field 10: 5515, or 215 and a blank
abbrev pub voucher_forms : List (List ℕ)
voucher_forms =
    (0xF5 ∷ 0xF5 ∷ 0xF1 ∷ 0xF5 ∷ [])
    ∷ (0xF2 ∷ 0xF1 ∷ 0xF5 ∷ 0x40 ∷ [])
    ∷ []

-- field 16: 0
abbrev pub courtesy_checks : List (List ℕ)
courtesy_checks = (0xF0 ∷ []) ∷ []

-- field 25: 0 or 1
abbrev pub voided_checks : List (List ℕ)
voided_checks = (0xF0 ∷ []) ∷ (0xF1 ∷ []) ∷ []

-- field 44: CTR, BTR, CTP, CKS, DEP, DRW or DRC; the last three apart
abbrev pub drawings : List (List ℕ)
drawings = (0xC4 ∷ 0xC5 ∷ 0xD7 ∷ []) ∷ (0xC4 ∷ 0xD9 ∷ 0xE6 ∷ []) ∷ (0xC4 ∷ 0xD9 ∷ 0xC3 ∷ []) ∷ []

abbrev pub business_functions : List (List ℕ)
business_functions =
    (0xC3 ∷ 0xE3 ∷ 0xD9 ∷ [])
    ∷ (0xC2 ∷ 0xE3 ∷ 0xD9 ∷ [])
    ∷ (0xC3 ∷ 0xE3 ∷ 0xD7 ∷ [])
    ∷ (0xC3 ∷ 0xD2 ∷ 0xE2 ∷ [])
    ∷ drawings

-- field 48: 22, 32, 42 or 52
abbrev pub transaction_codes : List (List ℕ)
transaction_codes = (0xF2 ∷ 0xF2 ∷ []) ∷ (0xF3 ∷ 0xF2 ∷ []) ∷ (0xF4 ∷ 0xF2 ∷ []) ∷ (0xF5 ∷ 0xF2 ∷ []) ∷ []

-- field 51: Electronic, Check or Western Union
abbrev pub payer_mechanisms : List (List ℕ)
payer_mechanisms =
    (0xC5 ∷ 0x93 ∷ 0x85 ∷ 0x83 ∷ 0xA3 ∷ 0x99 ∷ 0x96 ∷ 0x95 ∷ 0x89 ∷ 0x83 ∷ 0x40 ∷ 0x40 ∷ 0x40 ∷ 0x40 ∷ 0x40 ∷ 0x40 ∷ 0x40 ∷ 0x40 ∷ 0x40 ∷ 0x40 ∷ [])
    ∷ (0xC3 ∷ 0x88 ∷ 0x85 ∷ 0x83 ∷ 0x92 ∷ 0x40 ∷ 0x40 ∷ 0x40 ∷ 0x40 ∷ 0x40 ∷ 0x40 ∷ 0x40 ∷ 0x40 ∷ 0x40 ∷ 0x40 ∷ 0x40 ∷ 0x40 ∷ 0x40 ∷ 0x40 ∷ 0x40 ∷ [])
    ∷ (0xE6 ∷ 0x85 ∷ 0xA2 ∷ 0xA3 ∷ 0x85 ∷ 0x99 ∷ 0x95 ∷ 0x40 ∷ 0xE4 ∷ 0x95 ∷ 0x89 ∷ 0x96 ∷ 0x95 ∷ 0x40 ∷ 0x40 ∷ 0x40 ∷ 0x40 ∷ 0x40 ∷ 0x40 ∷ 0x40 ∷ [])
    ∷ []

-- field 62: CCD, PPD, IAT or CTX
abbrev pub entry_classes : List (List ℕ)
entry_classes =
    (0xC3 ∷ 0xC3 ∷ 0xC4 ∷ [])
    ∷ (0xD7 ∷ 0xD7 ∷ 0xC4 ∷ [])
    ∷ (0xC9 ∷ 0xC1 ∷ 0xE3 ∷ [])
    ∷ (0xC3 ∷ 0xE3 ∷ 0xE7 ∷ [])
    ∷ []
