-- The last element of a list, which is the most significant one of bytes and digits.
use Rattle.std.specs.Prelude.{◌≢◌, List, ◌-◌, ◌<◌, length, get_or}

-- it is not this one; the empty list has none
abbrev pub TopOtherThan : {A : Type 0} → A → List A → Type 0
TopOtherThan z l = 0 < length l → get_or l (length l - 1) z ≢ z
