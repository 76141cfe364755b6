-- docs/RULES.md, 6.1: the number and the place of each refusal.
use Rattle.std.specs.Prelude.{ℕ}
use Rattle.rules.specs.declared.Refusal.{Refusal}
use Rattle.rules.specs.declared.Refusal.TheVariants.{NumberTooLong, NumberIsZero, MethodOrWidth, NotADigit, StringTooLong, RoomTooSmall, PlanLength, WorkSpaceTooShort, MalformedStep, ValueIsZero, ValueTooLarge, WrongEnd, HighestByteIsZero}

abbrev pub refusal_number : Refusal → ℕ
refusal_number NumberTooLong = 1
refusal_number NumberIsZero = 2
refusal_number MethodOrWidth = 3
refusal_number (NotADigit place) = 4
refusal_number StringTooLong = 5
refusal_number (RoomTooSmall needed) = 6
refusal_number PlanLength = 7
refusal_number WorkSpaceTooShort = 8
refusal_number (MalformedStep i) = 9
refusal_number (ValueIsZero i) = 10
refusal_number (ValueTooLarge i) = 11
refusal_number (WrongEnd r) = 12
refusal_number HighestByteIsZero = 13

abbrev pub refusal_place : Refusal → ℕ
refusal_place NumberTooLong = 0
refusal_place NumberIsZero = 0
refusal_place MethodOrWidth = 0
refusal_place (NotADigit place) = place
refusal_place StringTooLong = 0
refusal_place (RoomTooSmall needed) = needed
refusal_place PlanLength = 0
refusal_place WorkSpaceTooShort = 0
refusal_place (MalformedStep i) = i
refusal_place (ValueIsZero i) = i
refusal_place (ValueTooLarge i) = i
refusal_place (WrongEnd r) = r
refusal_place HighestByteIsZero = 0
