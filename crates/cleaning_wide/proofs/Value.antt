-- What clean wide reads of a digit string, its sign and its size, and what it writes. Assumes nothing.
use Rattle.std.specs.Prelude.{Result, Ok, Err}
use mathlib.Core.Path.{◌≡◌, refl, ap, ◌∙◌}
use mathlib.Core.List.{List}
use Prim.Native.Nat.{ℕ, ◌+◌, ◌/◌, ◌≤◌}
use native.Mathlib.Omega.{arith}
use lib.IntN.{ℤ, pos, negsuc, nat_abs}
use lib.ListN.{length, take, replicate}
use Rattle.rules.specs.Limits.{string_digits}
use Rattle.rules.specs.declared.Refusal.{Refusal}
use Rattle.rules.proofs.Fitted.{fits}
use Rattle.integers.specs.Positional.{bytes_value}
use Rattle.integers.specs.Signed.{sign_of}
use Rattle.integers.proofs.Shortest.{bytes_value_lem}
use Rattle.digit_strings.specs.Admission.{string_verdict, string_value, DigitString}
use Rattle.digit_strings.proofs.Tests.{digit_string_is}
use Rattle.widths.specs.Width.{width_verdict}
use Rattle.widths.proofs.Tests.{allowed_is}
use Rattle.reading.specs.declared.ReadBack.{ReadBack}
use Rattle.reading.specs.ReadBack.{size_bytes, read_answer_of, read_buffer_of}
use Rattle.reading_wide.proofs.Size.{bytes_room}
use Rattle.cleaning.specs.Clean.{cleaning_of}
use Rattle.wide_digits.specs.Form.{turned, FormIn}
use Rattle.wide_digits.proofs.Form.{form_bytes}
use Rattle.wide_digits.proofs.Padded.{padded_value}

-- the array that the size is read into; every size has room there
abbrev size_room : ℕ
size_room = string_digits / 8 + 8

module _ (w : ℕ) (passed : width_verdict w ≡ Ok tt) (s : List ℕ) where
  has_room : string_verdict w s ≡ Ok tt → length (size_bytes s) ≤ size_room
  has_room e = omega (arith, bytes_room w ((allowed_is w).0 passed) s ((digit_string_is w s).0 e))

  answer : string_verdict w s ≡ Ok tt → read_answer_of w s size_room ≡ Ok (record { sign = sign_of (string_value s); length = length (size_bytes s) })
  answer e = rw (e, fits (size_bytes s) size_room (has_room e))

  -- a refusal of the reading is one of the string
  pub read_refused : {r : Refusal} → Err r ≡ read_answer_of w s size_room → string_verdict w s ≡ Err r
  read_refused {r} e = go (string_verdict w s) refl
    where
      go : (v : Result Unit Refusal) → string_verdict w s ≡ v → string_verdict w s ≡ Err r
      go (Err q) f = let g : read_answer_of w s size_room ≡ Err q = rw f in f ∙ cc
      go (Ok _) f = let g = answer f in absurd cc

  -- otherwise the string is one of digits, and its sign and its size are read
  pub record Read (sign : ℕ) (size : List ℕ) : Type 0 where
    pub string : DigitString w s
    pub sign_is : sign ≡ sign_of (string_value s)
    pub size_is : bytes_value size ≡ nat_abs (string_value s)

  pub read_value : {read : ReadBack} → Ok read ≡ read_answer_of w s size_room → {size : List ℕ} → size ≡ read_buffer_of w s (replicate size_room 0) → Read read.sign size
  unfolding size_bytes
  read_value {read} e {size} b = go (string_verdict w s) refl
    where
      go : (v : Result Unit Refusal) → string_verdict w s ≡ v → Read read.sign size
      go (Err q) f = let g : read_answer_of w s size_room ≡ Err q = rw f in absurd cc
      go (Ok _) f = let g = answer f in record {
        string = (digit_string_is w s).0 f;
        sign_is = let r : read ≡ record { sign = sign_of (string_value s); length = length (size_bytes s) } = cc in ap (λ (r : ReadBack). r.sign) r;
        size_is = rw (b, f) (padded_value (size_bytes s) size_room (has_room f) ∙ bytes_value_lem (nat_abs (string_value s)));
      }

-- ---- the form by sign and size

by_sign : (v : ℤ) → turned (sign_of v) (pos (nat_abs v)) ≡ v
by_sign (pos n) = refl
by_sign (negsuc n) = refl

pub cleaned : (w : ℕ) (s : List ℕ) (sign size : ℕ) (digits : List ℕ) (n : ℕ) → sign ≡ sign_of (string_value s) → size ≡ nat_abs (string_value s)
    → FormIn w (turned sign (pos size)) digits n → take n digits ≡ cleaning_of w s
unfolding cleaning_of
cleaned w s sign size digits n e f form =
    form_bytes w (string_value s) digits n (rw (e, f, by_sign (string_value s)) at form)
