-- `digit_text::read_digits` meets its contract: the words passed are the high digits, which stand in their places. Assumes nothing.
use mathlib.Core.Path.{◌≡◌}
use Prim.Native.Nat.{◌≤◌}
use lib.ListN.{length, take}
use Rattle.digit_text.specs.Digits.{text_digits}
use Rattle.digit_text.proofs.Filling.{filled}
use Rattle.digit_text.proofs.read_digits.Given as goal

abbrev pub invariant-loop-place : goal.invariant-loop-place
invariant-loop-place l = record {
  first : l.place-iterator.a.iter.start ≡ 0;
  most : l.place-iterator.a.iter.end ≤ l.n;
  long : length l.out ≡ length l.initial.out;
  low : text_digits l.place-iterator.b.0.now ≡ take l.place-iterator.a.iter.end (text_digits l.text);
  high : l.out ≡ filled (text_digits l.text) l.initial.out l.place-iterator.a.iter.end;
}
