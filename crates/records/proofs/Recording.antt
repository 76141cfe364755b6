-- A work space in use: a record is read, and one more is stored. Assumes nothing.
use mathlib.Core.Path.{◌≡◌, refl, ap, ◌∙◌}
use mathlib.Core.List.{List, [], ◌∷◌, ◌++◌, append-nil}
use Prim.Native.Nat.{ℕ, ◌+◌, ◌*◌, ◌<◌}
use native.Mathlib.Decide.{dec_lt}
use native.Mathlib.Nat.{zero-add}
use native.Mathlib.Omega.{arith}
use lib.IntN.{ℤ, pos}
use lib.ListN.{length, drop, length-append, get_or-append}
use lib.Seq.{get_or_at}
use Rattle.rules.specs.Limits.{record_bytes}
use Rattle.integers.proofs.Blocks.{placed, place_more}
use Rattle.chains.specs.Values.{at}
use Rattle.chains.specs.Sound.{Representable}
use Rattle.chains.specs.Records.{record_of, records_of}
use Rattle.chains.proofs.Records.{length_records, records_append, record_at}
use Rattle.records.specs.Recording.{Recording, HasRecord}

-- no record yet
pub recording_none : (lent : List ℕ) → Recording lent lent []
unfolding records_of
recording_none lent = record { representable = λ j h. absurd (omega arith); bytes = refl }

module _ (lent here : List ℕ) (values : List ℤ) (w : Recording lent here values) where
  -- each value has its record
  pub has_record : (j : ℕ) → j < length values → HasRecord here (record_bytes * j) (at values j)
  has_record j h = (rw w.bytes (record_at values (drop (record_bytes * length values) lent) j h), w.representable j h)

  -- one record more, after m others
  pub recording_more : (z : ℤ) (m : ℕ) (next : List ℕ) → length values ≡ m → Representable z → next ≡ placed here (record_bytes * m) record_bytes (record_of z)
      → Recording lent next (values ++ (z ∷ []))
  unfolding records_of
  recording_more z m next long l e =
      let front : length (records_of values) ≡ record_bytes * m = length_records values ∙ ap (λ (k : ℕ). record_bytes * k) long in
      let total : record_bytes * length (values ++ (z ∷ [])) ≡ record_bytes * m + record_bytes = rw length-append (omega arith) in
      let more = place_more lent 0 (record_bytes * m) (records_of values) front record_bytes (record_of z) (omega arith) in
      record {
        representable = λ j h. go j (dec_lt j (length values)) (rw length-append at h);
        bytes = e ∙ rw (w.bytes, total, records_append values (z ∷ []), append-nil, long) (simp zero-add at more);
      }
    where
      go : (j : ℕ) → Dec (j < length values) → j < length values + 1 → Representable (at (values ++ (z ∷ [])) j)
      go j (yes h) b = rw (get_or-append values (z ∷ []) (pos 0) j h) (w.representable j h)
      go j (no h) b = let e : length values ≡ j = omega arith in rw (get_or_at values z [] (pos 0) j e) l
