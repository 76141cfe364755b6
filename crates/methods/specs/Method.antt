-- The methods by number and width (docs/RULES.md, "Methods"). A new method is a file beside this one, a line in `methods` and in each definition by cases.
use Rattle.rules.specs.declared.Refusal.{Refusal}
use Rattle.std.specs.Prelude.{ℕ, zero, suc, ◌-◌, ◌≡◌, cond, List, [], ◌∷◌, ◌++◌, map, leb, Result, Ok, Err}
use Rattle.rules.specs.Limits.{least_width, largest_width}
use Rattle.rules.specs.declared.Refusal.TheVariants.{MethodOrWidth}
use Rattle.chains.specs.Steps.{Step}
use Rattle.methods.specs.declared.Method.{Method}
use Rattle.methods.specs.declared.Method.TheVariants.{Binary, FixedWindows, SlidingWindows, Naf, WideNaf, ModifiedNaf}
use Rattle.methods.specs.Widths.{fixed_window_bits, sliding_window_bits}
use Rattle.methods.specs.Binary.{binary_steps}
use Rattle.methods.specs.FixedWindows.{fixed_window_steps}
use Rattle.methods.specs.SlidingWindows.{sliding_window_steps}
use Rattle.methods.specs.NonAdjacentForm.{naf_steps}
use Rattle.methods.specs.WideNaf.{wide_naf_steps}
use Rattle.methods.specs.ModifiedNaf.{modified_naf_steps}

-- the steps that a method gives for e
abbrev pub steps_by : Method → ℕ → List Step
steps_by Binary e = binary_steps e
steps_by (FixedWindows d) e = fixed_window_steps e d
steps_by (SlidingWindows d) e = sliding_window_steps e d
steps_by Naf e = naf_steps e
steps_by (WideNaf w) e = wide_naf_steps e w
steps_by ModifiedNaf e = modified_naf_steps e

-- the two numbers that ask for it
abbrev pub method_number : Method → ℕ
method_number Binary = 1
method_number (FixedWindows d) = 2
method_number (SlidingWindows d) = 3
method_number Naf = 4
method_number (WideNaf w) = 5
method_number ModifiedNaf = 6

abbrev pub method_width : Method → ℕ
method_width Binary = 0
method_width (FixedWindows d) = d
method_width (SlidingWindows d) = d
method_width Naf = 0
method_width (WideNaf w) = w
method_width ModifiedNaf = 0

-- a method by its width, from the least to the most that it allows
pub record Entry : Type 0 where
  pub method : ℕ → Method
  pub least : ℕ
  pub most : ℕ

abbrev pub entry : (ℕ → Method) → ℕ → ℕ → Entry
entry method least most = record { method = method; least = least; most = most }

-- methods 1 to 6: width is 0 for methods 1, 4 and 6, from 1 on for methods 2 and 3, and that of a non-adjacent form for method 5
abbrev pub methods : List Entry
methods =
    entry (λ width. Binary) 0 0
    ∷ (entry FixedWindows 1 fixed_window_bits
    ∷ (entry SlidingWindows 1 sliding_window_bits
    ∷ (entry (λ width. Naf) 0 0
    ∷ (entry WideNaf least_width largest_width
    ∷ (entry (λ width. ModifiedNaf) 0 0
    ∷ [])))))

-- the method, if its width is one that it allows
unfoldable pub within : Method → ℕ → ℕ → ℕ → Result Method Refusal
within method width least most = cond (leb least width) (cond (leb width most) (Ok method) (Err MethodOrWidth)) (Err MethodOrWidth)

-- the method of entry n, counted from 0
unfoldable pub numbered : List Entry → ℕ → ℕ → Result Method Refusal
numbered [] n width = Err MethodOrWidth
numbered (m ∷ ms) zero width = within (m.method width) width m.least m.most
numbered (m ∷ ms) (suc n) width = numbered ms n width

-- the method that the two numbers ask for, or refusal 3; methods are numbered from 1
unfoldable pub method_of : ℕ → ℕ → Result Method Refusal
method_of zero width = Err MethodOrWidth
method_of (suc n) width = numbered methods n width

-- a method that two numbers ask for: its own
abbrev pub Allowed : Method → Type 0
Allowed m = method_of (method_number m) (method_width m) ≡ Ok m

-- n numbers from k on
unfoldable pub count_from : ℕ → ℕ → List ℕ
count_from k zero = []
count_from k (suc n) = k ∷ count_from (suc k) n

-- each method at every width that it allows
unfoldable pub every_width : List Entry → List Method
every_width [] = []
every_width (m ∷ ms) = map m.method (count_from m.least (suc m.most - m.least)) ++ every_width ms

-- every choice there is, in order of method, then width
abbrev pub choices : List Method
choices = every_width methods
