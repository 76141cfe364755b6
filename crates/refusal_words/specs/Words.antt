-- The words of each refusal (docs/RULES.md, 6.1), in ASCII, and how a call writes them.
use Rattle.rules.specs.declared.Refusal.{Refusal}
use Rattle.std.specs.Prelude.{ℕ, List, [] as []ᴸ, ◌∷◌ as ◌∷ᴸ◌, length, get_or, Result}
use Prim.Native.Char.{code}
use Prim.Native.String.{String, [], ◌∷◌}
use Rattle.rules.specs.Memory.{fitted, leaves}

-- the bytes of a text: the codes of its characters
unfoldable pub text_bytes : String → List ℕ
text_bytes [] = []ᴸ
text_bytes (c ∷ text) = code c ∷ᴸ text_bytes text

-- what the refusals say, from 0, which is none, to 13
unfoldable pub texts : List String
texts =
    "not refused"
    ∷ᴸ "the number is too long"
    ∷ᴸ "the number is zero"
    ∷ᴸ "no such method, or a width that it does not allow"
    ∷ᴸ "the byte at this place is no digit"
    ∷ᴸ "the digit string is too long"
    ∷ᴸ "the output needs this many bytes"
    ∷ᴸ "the plan is no whole number of steps, or has too many"
    ∷ᴸ "the work space is too short for the plan"
    ∷ᴸ "this step has an unknown operation, or a position that is not below its own"
    ∷ᴸ "the value at this step is zero"
    ∷ᴸ "the value at this step is too large"
    ∷ᴸ "the last value, at this position, is not the number"
    ∷ᴸ "the highest byte of the number is zero"
    ∷ᴸ []ᴸ

-- what a number says: a refusal's text, or that there is no such refusal
unfoldable pub words : ℕ → String
words refusal = get_or texts refusal "no such refusal"

-- the bytes of the longest text: as much room is always enough
abbrev pub words_room : ℕ
words_room = 75

-- into a lent buffer: all of them or, where there is no room, nothing and refusal 6
abbrev pub words_answer : ℕ → ℕ → Result ℕ Refusal
words_answer refusal room = fitted (text_bytes (words refusal)) room

-- the buffer afterwards
abbrev pub words_buffer : ℕ → List ℕ → List ℕ
words_buffer refusal out = leaves (words_answer refusal (length out)) (text_bytes (words refusal)) out
