-- Under `uniqueVertices: "global"` there is always a set of chosen paths: from those up to a length, the
-- steps of those of that length give the next ones.
use Rattle.std.proofs.Common.{◌≡◌, ◌∙◌, ℕ, zero, suc, ◌+◌, ◌<◌, ◌≤◌, ◌⊎◌, inl, inr, sym, ap, subst, List, [], ◌∷◌, length, Bool, true, false, true≢false, ◌||◌, refl, arith, add-one}
use Rattle.std.proofs.lemmas.Bool.{cases_lt}
use Rattle.std.proofs.lemmas.Slice.Eq.{bytes_eq-Decides}
use Rattle.std.specs.Prelude.{bytes_eq}
use Rattle.aql_value.specs.Datum.{Datum}
use Rattle.aql_tree.specs.Tree.{TraversalShape}
use Rattle.aql_meaning.specs.Paths.{EdgeStep, Path, steps_from, end_of, empty_path, extension, IsIn, is_reached, AreApart, IsBuilt, IsChosen}

module _ (w : TraversalShape) (es : List Datum) (pruned : Path → Bool) (start : List ℕ) where
  -- without the last property
  record Grown (max : ℕ) (old ps : List Path) : Type 0 where
    fresh : (p : Path) → IsIn p ps → IsIn p old ⊎ (length p.steps ≡ max)
    holds_empty : IsIn (empty_path start) ps
    built : (p : Path) → IsIn p ps → IsBuilt w es pruned start ps p
    short : (p : Path) → IsIn p ps → length p.steps ≤ max
    apart : AreApart ps

  built_more : (q p : Path) (ps : List Path) → IsBuilt w es pruned start ps p
      → IsBuilt w es pruned start (q ∷ ps) p
  built_more q p ps (inl e) = inl e
  built_more q p ps (inr x) = inr (x.0, x.1, x.2, inr x.3, x.4, x.5)

  abbrev Adds : Path → EdgeStep → List Path → List Path → Type 0
  Adds t s ps qs = ((p : Path) → IsIn p ps → IsIn p qs) × (is_reached s.to qs ≡ true) ×
      ((id : List ℕ) → is_reached id ps ≡ true → is_reached id qs ≡ true)

  or_true : (a b : Bool) → b ≡ true → (a || b) ≡ true
  or_true true b h = refl
  or_true false b h = h

  or_first : (a b : Bool) → a ≡ true → (a || b) ≡ true
  or_first true b h = refl
  or_first false b h = absurd (true≢false (sym h))

  one : (max : ℕ) (old ps : List Path) (t : Path) (s : EdgeStep) → Grown max old ps → IsIn t ps
      → pruned t ≡ false → IsIn s (steps_from w.direction es (end_of t)) → length t.steps + 1 ≡ max
      → (qs : List Path) × Grown max old qs × Adds t s ps qs
  one max old ps t s g i f e l = by (is_reached s.to ps) refl
    where
      by : (b : Bool) → is_reached s.to ps ≡ b → (qs : List Path) × Grown max old qs × Adds t s ps qs
      by true r = (ps, g, ((λ p h. h), r, (λ id h. h)))
      by false r = (
        extension t s ∷ ps,
        record {
          fresh = λ p. elim [
            | inl h ↦ inr
                (subst (λ (q : Path). length q.steps ≡ max) (sym h)
                (let k : length (extension t s).steps ≡ max = omega arith in k))
            | inr h ↦ g.fresh p h
          ];
          holds_empty = inr g.holds_empty;
          built = λ p. elim [
            | inl h ↦ inr (t, s, h, inr i, f, e)
            | inr h ↦ built_more (extension t s) p ps (g.built p h)
          ];
          short = λ p. elim [
            | inl h ↦ subst (λ (q : Path). length q.steps ≤ max) (sym h)
                (let k : length (extension t s).steps ≤ max = omega arith in k)
            | inr h ↦ g.short p h
          ];
          apart = (r, g.apart);
        },
        ((λ p h. inr h), or_first _ _ ((bytes_eq-Decides s.to s.to).1 refl), (λ id h. or_true _ _ h)),
      )

  -- all steps of one path
  each_step : (max : ℕ) (old ps : List Path) (t : Path) (ss : List EdgeStep) → Grown max old ps → IsIn t ps
      → pruned t ≡ false → ((s : EdgeStep) → IsIn s ss → IsIn s (steps_from w.direction es (end_of t)))
      → length t.steps + 1 ≡ max
      → (qs : List Path) × Grown max old qs × ((p : Path) → IsIn p ps → IsIn p qs)
      × ((id : List ℕ) → is_reached id ps ≡ true → is_reached id qs ≡ true)
      × ((s : EdgeStep) → IsIn s ss → is_reached s.to qs ≡ true)
  each_step max old ps t [] g i f e l = (ps, g, (λ p h. h), (λ id h. h), (λ s h. absurd h))
  each_step max old ps t (s ∷ ss) g i f e l =
      let a = one max old ps t s g i f (e s (inl refl)) l in
      let b = each_step max old a.0 t ss a.1 (a.2.0 t i) f (λ r h. e r (inr h)) l in (
        b.0,
        b.1,
        (λ p h. b.2 p (a.2.0 p h)),
        (λ id h. b.3 id (a.2.2 id h)),
        (λ r. elim [
          | inl h ↦ b.3 r.to
              (subst (λ (q : EdgeStep). is_reached q.to a.0 ≡ true) (sym h) a.2.1)
          | inr h ↦ b.4 r h
        ]),
      )

  abbrev Result : ℕ → List Path → List Path → List Path → Type 0
  Result n old from us = (qs : List Path) × Grown (n + 1) old qs × ((p : Path) → IsIn p from → IsIn p qs) ×
      ((id : List ℕ) → is_reached id from ≡ true → is_reached id qs ≡ true)
      × ((t : Path) → IsIn t us → pruned t ≡ false → n ≤ length t.steps → (s : EdgeStep)
      → IsIn s (steps_from w.direction es (end_of t)) → is_reached s.to qs ≡ true)

  each_path : (n : ℕ) (old ps ts : List Path) → Grown (n + 1) old ps → ((t : Path) → IsIn t ts → IsIn t ps)
      → ((t : Path) → IsIn t ts → length t.steps ≤ n)
      → (qs : List Path) × Grown (n + 1) old qs × ((p : Path) → IsIn p ps → IsIn p qs)
      × ((id : List ℕ) → is_reached id ps ≡ true → is_reached id qs ≡ true)
      × ((t : Path) → IsIn t ts → pruned t ≡ false → n ≤ length t.steps → (s : EdgeStep)
      → IsIn s (steps_from w.direction es (end_of t)) → is_reached s.to qs ≡ true)
  each_path n old ps [] g i l = (ps, g, (λ p h. h), (λ id h. h), (λ t h. absurd h))
  each_path n old ps (t ∷ ts) g i l =
      by (pruned t) refl (cases_lt (length t.steps) n)
      (λ qs k j. each_path n old qs ts k (λ u h. j u (i u (inr h))) (λ u h. l u (inr h)))
    where
      by : (b : Bool) → pruned t ≡ b → (length t.steps < n) ⊎ (n ≤ length t.steps)
          → ((qs : List Path) → Grown (n + 1) old qs → ((p : Path) → IsIn p ps → IsIn p qs)
          → Result n old qs ts) → Result n old ps (t ∷ ts)
      by true e d more =
          let r = more ps g (λ p h. h) in (
            r.0,
            r.1,
            r.2,
            r.3,
            (λ u. elim [
              | inl h ↦ λ f. absurd
                  (true≢false (sym e ∙ sym (ap pruned h) ∙ f))
              | inr h ↦ r.4 u h
            ]),
          )
      by false e (inl d) more =
          let r = more ps g (λ p h. h) in (
            r.0,
            r.1,
            r.2,
            r.3,
            (λ u. elim [
              | inl h ↦ λ f m. absurd
                  (let k : length u.steps < n = subst (λ (q : Path). length q.steps < n) (sym h) d in
                  omega arith)
              | inr h ↦ r.4 u h
            ]),
          )
      by false e (inr d) more =
          let a = each_step (n + 1) old ps t (steps_from w.direction es (end_of t)) g (i t (inl refl)) e
          (λ s h. h) (let m : length t.steps ≤ n = l t (inl refl) in omega arith) in
          let r = more a.0 a.1 a.2 in (
            r.0,
            r.1,
            (λ p h. r.2 p (a.2 p h)),
            (λ id h. r.3 id (a.3 id h)),
            (λ u. elim [
              | inl h ↦ λ f m s k. r.3 s.to
                  (a.4 s (subst
                  (λ (q : Path). IsIn s (steps_from w.direction es (end_of q))) h k))
              | inr h ↦ r.4 u h
            ]),
          )

  or_cases : (a b : Bool) → (a || b) ≡ true → (a ≡ true) ⊎ (b ≡ true)
  or_cases true b h = inl refl
  or_cases false b h = inr h

  reached : (id : List ℕ) (ps : List Path) → is_reached id ps ≡ true
      → (u : Path) × IsIn u ps × (end_of u ≡ id)
  reached id [] h = absurd (true≢false (sym h))
  reached id (p ∷ ps) h = elim (or_cases (bytes_eq id (end_of p)) (is_reached id ps) h) [
    | inl e ↦ (p, inl refl, sym ((bytes_eq-Decides id (end_of p)).0 e))
    | inr e ↦ let r = reached id ps e in (r.0, inr r.1, r.2)
  ]

  next : (n : ℕ) (ps : List Path) → IsChosen w es pruned start n ps
      → (qs : List Path) × IsChosen w es pruned start (n + 1) qs
  next n ps c0 =
      let g : Grown (n + 1) ps ps =
      record {
        fresh = λ p h. inl h;
        holds_empty = c0.holds_empty;
        built = c0.built;
        short =
            λ p h. (let k : length p.steps ≤ n = c0.short p h in omega arith);
        apart = c0.apart;
      } in
      let r = each_path n ps ps ps g (λ t h. h) c0.short in
      let q : Grown (n + 1) ps r.0 = r.1 in (
        r.0,
        record {
          holds_empty = q.holds_empty;
          built = q.built;
          short = q.short;
          apart = q.apart;
          reaches = λ t h f l s k. elim (q.fresh t h) [
            | inr e ↦ absurd (omega arith)
            | inl o ↦ elim (cases_lt (length t.steps) n) [
              | inl d ↦ let c = c0.reaches t o f d s k in (c.0, r.2 c.0 c.1, c.2, c.3)
              | inr d ↦ let u = reached s.to r.0 (r.4 t o f d s k) in
                  (u.0, u.1, u.2, (let m : length u.0.steps ≤ n + 1 = q.short u.0 u.1 in omega arith))
            ]
          ];
        },
      )

  pub traversal_exists : (max : ℕ) → (ps : List Path) × IsChosen w es pruned start max ps
  traversal_exists zero = (
    empty_path start ∷ [],
    record {
      holds_empty = inl refl;
      built = λ p. elim [ inl h ↦ inl h | inr h ↦ absurd h ];
      short = λ p. elim [
        | inl h ↦ subst (λ (q : Path). length q.steps ≤ 0) (sym h)
            (let k : 0 ≤ 0 = omega arith in k)
        | inr h ↦ absurd h
      ];
      apart = (refl, tt);
      reaches = λ t h f l. absurd (omega arith);
    },
  )
  traversal_exists (suc n) =
      let c0 = traversal_exists n in
      let r = next n c0.0 c0.1 in
      (r.0, subst (λ (m : ℕ). IsChosen w es pruned start m r.0) (add-one n) r.1)
