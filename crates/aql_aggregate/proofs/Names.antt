-- The names of the aggregates, one after another.
use Rattle.std.proofs.Common.{◌≡◌, ℕ, List, map, Bool, true, false, cond, refl, sym}
use Rattle.std.specs.Prelude.{Some, None, codes, option_map, IsTrue, ◌↔◌}
use Rattle.std.specs.Char.{to_ascii_lowercase}
use lib.Pointwise.{bytes_decides}
use Rattle.std.specs.Str.{str_eq_ignore_ascii_case}
use Rattle.aql_func.specs.Aggregates.{Aggregate, count, sum, min, max, sorted_unique, count_distinct, aggregate_named}

-- two tests that hold together are one
alike : (a b : Bool) → (a ≡ true → b ≡ true) → (b ≡ true → a ≡ true) → a ≡ b
alike true b f g = sym (f refl)
alike false true f g = g refl
alike false false f g = refl

-- what std says of equality in any letter case
pub ignoring_case : (r : Bool) (a b : List ℕ)
    → (IsTrue r ↔ (map to_ascii_lowercase a ≡ map to_ascii_lowercase b)) → r ≡ str_eq_ignore_ascii_case a b
ignoring_case r a b h = alike r (str_eq_ignore_ascii_case a b)
    (λ e. (bytes_decides _ _).1 (h.0 e)) (λ e. h.1 ((bytes_decides _ _).0 e))

abbrev pub Same : List ℕ → List ℕ → Bool
Same = str_eq_ignore_ascii_case

pub no_aggregate : (name : List ℕ) → Same (codes "LENGTH") name ≡ false → Same (codes "COUNT") name ≡ false
    → Same (codes "SUM") name ≡ false → Same (codes "MIN") name ≡ false → Same (codes "MAX") name ≡ false
    → Same (codes "SORTED_UNIQUE") name ≡ false → Same (codes "COUNT_DISTINCT") name ≡ false
    → aggregate_named name ≡ None
no_aggregate name = by (Same (codes "LENGTH") name) (Same (codes "COUNT") name) (Same (codes "SUM") name)
    (Same (codes "MIN") name) (Same (codes "MAX") name) (Same (codes "SORTED_UNIQUE") name)
    (Same (codes "COUNT_DISTINCT") name) where
      by : (a b c d e f g : Bool) → a ≡ false → b ≡ false → c ≡ false → d ≡ false → e ≡ false → f ≡ false
          → g ≡ false
          → option_map (λ (entry : List ℕ × Aggregate). entry.1)
          (cond a (Some (codes "LENGTH", count)) (cond b (Some (codes "COUNT", count))
          (cond c (Some (codes "SUM", sum))
          (cond d (Some (codes "MIN", min)) (cond e (Some (codes "MAX", max))
          (cond f (Some (codes "SORTED_UNIQUE", sorted_unique))
          (cond g (Some (codes "COUNT_DISTINCT", count_distinct)) None))))))) ≡ None
      by false false false false false false false _ _ _ _ _ _ _ = refl
      by true b c d e f g h _ _ _ _ _ _ = absurd (cc)
      by false true c d e f g _ h _ _ _ _ _ = absurd (cc)
      by false false true d e f g _ _ h _ _ _ _ = absurd (cc)
      by false false false true e f g _ _ _ h _ _ _ = absurd (cc)
      by false false false false true f g _ _ _ _ h _ _ = absurd (cc)
      by false false false false false true g _ _ _ _ _ h _ = absurd (cc)
      by false false false false false false true _ _ _ _ _ _ h = absurd (cc)
