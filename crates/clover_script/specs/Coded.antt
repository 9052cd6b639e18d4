-- coded texts: printable bytes stand for themselves, every other byte is a percent sign and two digits
use Rattle.std.specs.Prelude.{ℕ, ◌+◌, ◌-◌, ◌/◌, ◌%◌, ◌==◌, Bool, ◌&&◌, not, nat_le, nat_lt, if◌then◌else◌, List, [], ◌∷◌, flat_map}

-- a digit below 16, in lower case
abbrev pub hex_digit : ℕ → ℕ
hex_digit d = if nat_lt d 10 then 48 + d else 97 + (d - 10)

-- a byte that stands for itself
abbrev pub is_plain : ℕ → Bool
is_plain b = (nat_le 33 b && nat_le b 126) && not (b == 37)

-- a byte as two digits of four bits
abbrev pub hex_byte : ℕ → List ℕ
hex_byte b = hex_digit (b / 16) ∷ hex_digit (b % 16) ∷ []

-- the one spelling of a byte
abbrev pub coded_byte : ℕ → List ℕ
coded_byte b = if is_plain b then b ∷ [] else 37 ∷ hex_byte b

-- the coded text of some bytes
abbrev pub coded : List ℕ → List ℕ
coded bytes = flat_map coded_byte bytes
