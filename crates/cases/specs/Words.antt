-- What the characters of a row stand for.
use Rattle.std.specs.Prelude.{ℕ, ◌-◌, ◌&&◌, if◌then◌else◌, nat_le, nat_eq}
use Rattle.record.specs.declared.codes.Letter.{Letter}
use Rattle.record.specs.declared.codes.Letter.TheVariants.{N, C, W, I, A}

-- a digit, decimal or hexadecimal; 0 for what is none
abbrev pub digit_of : ℕ → ℕ
digit_of x =
    if nat_le 48 x && nat_le x 57 then x - 48
    else (if nat_le 65 x && nat_le x 70 then x - 55
    else 0)

-- the letter of a batch; what is none counts as A
abbrev pub letter_of : ℕ → Letter
letter_of x =
    if nat_eq x 78 then N
    else (if nat_eq x 67 then C
    else (if nat_eq x 87 then W
    else (if nat_eq x 73 then I
    else A)))
