-- Sets of chosen paths, made step by step: what a set must reach is tested at the end.
use Rattle.std.proofs.Common.{◌≡◌, ◌∙◌, refl, sym, ap, subst, ℕ, ◌+◌, ◌≤◌, ◌⊎◌, inl, inr, List, [], ◌∷◌, length, Bool, true, false, true≢false, ◌||◌, ◌&&◌, arith}
use Rattle.std.specs.Prelude.{bytes_eq, nat_le}
use Rattle.std.specs.List.{list_all, list_any}
use Rattle.std.proofs.lemmas.Slice.Eq.{bytes_eq-Decides}
use Rattle.aql_value.specs.Datum.{Datum}
use Rattle.aql_tree.specs.Tree.{TraversalShape}
use Rattle.aql_meaning.specs.Paths.{EdgeStep, Path, steps_from, end_of, empty_path, extension, IsIn, is_reached, AreApart, IsBuilt, IsChosen}

module _ (w : TraversalShape) (es : List Datum) (pruned : Path → Bool) (start : List ℕ) (max : ℕ) where
  -- all but what the set must reach
  pub record Made (T : List Path) : Type 0 where
    pub holds_empty : IsIn (empty_path start) T
    pub built : (p : Path) → IsIn p T → IsBuilt w es pruned start T p
    pub short : (p : Path) → IsIn p T → length p.steps ≤ max
    pub apart : AreApart T

  pub only_start : Made (empty_path start ∷ [])
  only_start = record {
    holds_empty = inl refl;
    built = λ p. elim [ inl h ↦ inl h | inr h ↦ absurd h ];
    short = λ p. elim [
      | inl h ↦ subst (λ (q : Path). length q.steps ≤ max) (sym h) (let k : 0 ≤ max = omega arith in k)
      | inr h ↦ absurd h
    ];
    apart = (refl, tt);
  }

  built_more : (q p : Path) (T : List Path) → IsBuilt w es pruned start T p
      → IsBuilt w es pruned start (q ∷ T) p
  built_more q p T (inl e) = inl e
  built_more q p T (inr x) = inr (x.0, x.1, x.2, inr x.3, x.4, x.5)

  pub one_more : (T : List Path) (t : Path) (s : EdgeStep) → Made T → IsIn t T → pruned t ≡ false
      → IsIn s (steps_from w.direction es (end_of t)) → length t.steps + 1 ≤ max → is_reached s.to T ≡ false
      → Made (extension t s ∷ T)
  one_more T t s m i f e l r = record {
    holds_empty = inr m.holds_empty;
    built =
        λ p. elim [
          | inl h ↦ inr (t, s, h, inr i, f, e)
          | inr h ↦ built_more (extension t s) p T (m.built p h)
        ];
    short = λ p. elim [
      | inl h ↦ subst (λ (q : Path). length q.steps ≤ max) (sym h)
          (let k : length (extension t s).steps ≤ max =
          omega arith in k)
      | inr h ↦ m.short p h
    ];
    apart = (r, m.apart);
  }

  abbrev reaches_early : List Path → ℕ → EdgeStep → Bool
  reaches_early T depth s = list_any (λ u. bytes_eq (end_of u) s.to && nat_le (length u.steps) depth) T

  -- the path is pruned or as long as may be, or all its steps are reached early enough
  abbrev goes_on : List Path → Path → Bool
  goes_on T t = pruned t || (nat_le max (length t.steps)
      || list_all (reaches_early T (length t.steps + 1)) (steps_from w.direction es (end_of t)))

  abbrev pub reaches_all : List Path → Bool
  reaches_all T = list_all (goes_on T) T

  and_both : (a b : Bool) → (a && b) ≡ true → (a ≡ true) × (b ≡ true)
  and_both true b h = (refl, h)
  and_both false b h = absurd (true≢false (sym h))

  or_first : (a b : Bool) → (a || b) ≡ true → (a ≡ true) ⊎ (b ≡ true)
  or_first true b h = inl refl
  or_first false b h = inr h

  all_at : {X : Type 0} (f : X → Bool) (x : X) (xs : List X) → list_all f xs ≡ true → IsIn x xs → f x ≡ true
  all_at f x [] h i = absurd i
  all_at f x (y ∷ ys) h (inl e) = ap f e ∙ (and_both (f y) (list_all f ys) h).0
  all_at f x (y ∷ ys) h (inr i) = all_at f x ys (and_both (f y) (list_all f ys) h).1 i

  some_at : {X : Type 0} (f : X → Bool) (xs : List X) → list_any f xs ≡ true
      → (x : X) × IsIn x xs × (f x ≡ true)
  some_at f [] h = absurd (true≢false (sym h))
  some_at f (y ∷ ys) h = elim (or_first (f y) (list_any f ys) h) [
    | inl e ↦ (y, inl refl, e)
    | inr e ↦ let r = some_at f ys e in (r.0, inr r.1, r.2)
  ]

  pub chosen : (T : List Path) → Made T → reaches_all T ≡ true → IsChosen w es pruned start max T
  chosen T m r = record {
    holds_empty = m.holds_empty;
    built = m.built;
    short = m.short;
    apart = m.apart;
    reaches = λ t i f l s k. elim (or_first (pruned t) _ (all_at (goes_on T) t T r i)) [
      | inl e ↦ absurd (true≢false (sym e ∙ f))
      | inr e ↦ elim (or_first (nat_le max (length t.steps)) _ e) [
        | inl d ↦ absurd (grind (arith, d, l))
        | inr d ↦
            let u = some_at _ T (all_at _ s (steps_from w.direction es (end_of t)) d k) in
            let b = and_both (bytes_eq (end_of u.0) s.to)
            (nat_le (length u.0.steps) (length t.steps + 1)) u.2 in
            (u.0, u.1, (bytes_eq-Decides (end_of u.0) s.to).0 b.0, grind (arith, b.1))
      ]
    ];
  }
