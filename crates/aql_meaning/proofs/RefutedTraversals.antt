-- Lists that are no answers of traversals.
use Rattle.std.proofs.Common.{◌≡◌, ◌∙◌, refl, sym, ap, ap₂, subst, inl, inr, ◌⊎◌, ◌<◌, ◌≤◌, ℕ, List, [], ◌∷◌, map, length, Bool, true, false, true≢false, ◌||◌, arith}
use Rattle.std.specs.Prelude.{Option, None, codes, nat_le, bytes_eq}
use Rattle.std.proofs.lemmas.List.Sorted.{IsPermutation-sym}
use Rattle.std.proofs.lemmas.Slice.Eq.{bytes_eq-Decides}
use Rattle.aql_value.specs.Datum.{Datum, null, text}
use Rattle.aql_value.specs.Contents.{same}
use Rattle.aql_value.specs.Database.{Database}
use Rattle.aql_tree.specs.declared.syntax.Direction.TheVariants.{Outbound}
use Rattle.aql_tree.specs.Tree.{ExprTree, TraversalShape}
use Rattle.aql_tree.specs.View.{maybe, members}
use Rattle.aql_tree.specs.Build as build
use Rattle.aql_meaning.specs.Row.{empty_row}
use Rattle.aql_meaning.specs.Value.{value}
use Rattle.aql_meaning.specs.Paths.{Path, EdgeStep, IsIn, IsChosen, AreApart, is_reached, along, extension, end_of, path_row, path_rows, steps_from}
use Rattle.aql_meaning.specs.Visible.{edges_named}
use Rattle.aql_meaning.specs.Meaning.{IsAnswer}
use Rattle.aql_meaning.specs.worked.Words.{str, edge, txt, returning}
use Rattle.aql_meaning.specs.worked.Traversals.{traversal, vertex_alone, global, key, at_key, keys_of_path, ring, shortcut, diamond, chosen_paths, path_ab, path_ac, path_abc, path_abd, path_acd}
use Rattle.aql_meaning.proofs.Absent.{differ, absent}
use Rattle.aql_meaning.proofs.Fixed.{values_at, single_traversal, in_permuted, in_map, in_filter, from_filter, from_map}
use Rattle.aql_meaning.proofs.Traversals.{raw_shape, shape, edges, holds, pruned, from_a, by, ab, ac, bd, cd}

-- ---- paths after a pruned one

abbrev ring_shape : TraversalShape
ring_shape = (build.traversal vertex_alone 1 4 Outbound (txt "n/a") (codes "e" ∷ []) (at_key "c") []).0

pub beyond_prune : IsAnswer ring
    (returning (traversal vertex_alone 1 4 Outbound "n/a" (at_key "c") [] ∷ []) key) empty_row
    (str "b" ∷ str "c" ∷ str "a" ∷ []) → ⊥
beyond_prune h =
    let w = single_traversal ring ring_shape (txt "n/a") (codes "e" ∷ []) (maybe (at_key "c"))
    (members []) tt empty_row h.0 h.2 in
    let vs = h.4 ∙ values_at ring key (tt, tt) h.0 h.1 h.3 in
    let a : IsIn (str "a") (map (value key null) h.0) =
    subst (λ us. IsIn (str "a") us) vs (inr (inr (inl refl))) in
    let row = from_map (value key null) (str "a") h.0 a in
    let given : IsIn row.0 (path_rows ring ring_shape empty_row w.0) =
    in_permuted row.0 h.0 (path_rows ring ring_shape empty_row w.0) (IsPermutation-sym _ _ w.2) row.1 in
    let one : IsIn (value key null row.0) (str "b" ∷ str "c" ∷ []) =
    subst (λ (T : List Path). IsIn (value key null row.0)
    (map (value key null) (path_rows ring ring_shape empty_row T))) w.1
    (in_map (value key null) row.0 (path_rows ring ring_shape empty_row w.0) given) in
    let found : IsIn (str "a") (str "b" ∷ str "c" ∷ []) =
    subst (λ v. IsIn v (str "b" ∷ str "c" ∷ [])) (sym row.2) one in
    absent (str "a") (str "b" ∷ str "c" ∷ []) refl refl found

-- ---- one path to each vertex

-- what RETURN gives for a path
abbrev keys_at : Database → Path → Datum
keys_at db t = value keys_of_path null (path_row db shape empty_row t)

-- an answer has the chosen paths of one step or two, and no others
record Chosen (db : Database) (prune : Option ExprTree) (values : List Datum) : Type 0 where
  paths : List Path
  chosen : IsChosen shape (edges_named db (codes "e" ∷ [])) (λ t. holds prune (path_row db shape empty_row t))
      (codes "n/a") 2 paths
  given : (t : Path) → IsIn t paths → nat_le 1 (length t.steps) ≡ true → IsIn (keys_at db t) values
  from : (v : Datum) → IsIn v values → (t : Path) × IsIn t paths × (v ≡ keys_at db t)

chosen_in : (db : Database) (prune : Option ExprTree) (values : List Datum)
    → IsAnswer db (chosen_paths prune) empty_row values → Chosen db prune values
chosen_in db prune values h =
    let w = single_traversal db raw_shape (txt "n/a") (codes "e" ∷ []) (maybe prune)
    (members global) tt empty_row h.0 h.2 in
    let vs = h.4 ∙ values_at db keys_of_path (tt, (tt, tt, tt)) h.0 h.1 h.3 in
    record {
      paths = w.0;
      chosen = w.1;
      given = λ t i long. subst (λ us. IsIn (keys_at db t) us) (sym vs)
          (in_map (value keys_of_path null) _ h.0
          (in_permuted (path_row db shape empty_row t) (path_rows db shape empty_row w.0) h.0 w.2
          (in_map (path_row db shape empty_row) t _
          (in_filter (λ (t : Path). nat_le 1 (length t.steps)) t w.0 long i))));
      from = λ v i.
          let row = from_map (value keys_of_path null) v h.0 (subst (λ us. IsIn v us) vs i) in
          let t = from_map (path_row db shape empty_row) row.0 _
          (in_permuted row.0 h.0 (path_rows db shape empty_row w.0) (IsPermutation-sym _ _ w.2) row.1) in
          (t.0, from_filter _ t.0 w.0 t.1, row.2 ∙ ap (value keys_of_path null) t.2);
    }

-- ---- a vertex at a later depth

abbrev es : List Datum
es = edges_named shortcut (codes "e" ∷ [])

abbrev never : Path → Bool
never t = false

abbrev straight : EdgeStep
straight = along (edge "e/3" "n/a" "n/c")

ids_differ : codes "n/a" ≡ codes "n/c" → ⊥
ids_differ e = differ (str "n/a") (str "n/c") refl refl (ap (λ s. text s) e)

not_b : codes "n/b" ≡ codes "n/c" → ⊥
not_b e = differ (str "n/b") (str "n/c") refl refl (ap (λ s. text s) e)

-- the one path to c of at most one step
direct : (T : List Path) → IsChosen shape es never (codes "n/a") 2 T → (u : Path) → IsIn u T
    → end_of u ≡ codes "n/c" → length u.steps ≤ 1 → u ≡ extension from_a straight
direct T c u i to short = elim (c.built u i) [
  | inl e ↦ absurd (ids_differ (sym (ap end_of e) ∙ to))
  | inr x ↦ elim (c.built x.0 x.3) [
    | inl e ↦ elim (subst (λ (t : Path). IsIn x.1 (steps_from Outbound es (end_of t))) e x.5) [
      | inl s ↦ absurd (not_b (sym (ap (λ (p : Path). end_of p) (x.2 ∙ ap₂ extension e s)) ∙ to))
      | inr j ↦ elim j [ inl s ↦ x.2 ∙ ap₂ extension e s | inr k ↦ absurd k ]
    ]
    | inr y ↦ absurd (
        let k : length (extension (extension y.0 y.1) x.1).steps ≤ 1 =
        subst (λ (p : Path). length p.steps ≤ 1) (x.2 ∙ ap (λ t. extension t x.1) y.2) short in
        omega arith)
  ]
]

pub later_depth : IsAnswer shortcut (chosen_paths None) empty_row (path_ab ∷ path_abc ∷ []) → ⊥
later_depth h =
    let c = chosen_in shortcut None (path_ab ∷ path_abc ∷ []) h in
    let u = c.chosen.reaches from_a c.chosen.holds_empty refl (let k : 0 < 2 = omega arith in k) straight
    (inr (inl refl)) in
    let is = direct c.paths c.chosen u.0 u.1 u.2 u.3 in
    absent path_ac (path_ab ∷ path_abc ∷ []) refl refl
    (subst (λ (v : Datum). IsIn v (path_ab ∷ path_abc ∷ [])) (ap (keys_at shortcut) is)
    (c.given u.0 u.1 (ap (λ (t : Path). nat_le 1 (length t.steps)) is)))

-- ---- the vertex d of the diamond

abbrev by_b : Path
by_b = by (by from_a ab) bd

abbrev by_c : Path
by_c = by (by from_a ac) cd

abbrev IsShort : Path → Type 0
IsShort t = (t ≡ from_a) ⊎ ((t ≡ by from_a ab) ⊎ (t ≡ by from_a ac))

first_step : (u t : Path) (s : EdgeStep) → u ≡ extension t s → t ≡ from_a
    → IsIn s (steps_from Outbound edges (end_of t)) → IsShort u
first_step u t s is e i = elim (subst (λ (p : Path). IsIn s (steps_from Outbound edges (end_of p))) e i) [
  | inl f ↦ inr (inl (is ∙ ap₂ extension e f))
  | inr j ↦ elim j [ inl f ↦ inr (inr (is ∙ ap₂ extension e f)) | inr k ↦ absurd k ]
]

module _ (prune : Option ExprTree) where
  abbrev Paths : List Path → Type 0
  Paths T = IsChosen shape edges (pruned prune) (codes "n/a") 2 T

  short_path : (T : List Path) → Paths T → (t : Path) → IsIn t T → length t.steps ≤ 1 → IsShort t
  short_path T c t i l = elim (c.built t i) [
    | inl e ↦ inl e
    | inr x ↦ elim (c.built x.0 x.3) [
      | inl e ↦ first_step t x.0 x.1 x.2 e x.5
      | inr y ↦ absurd (
          let k : length (extension (extension y.0 y.1) x.1).steps ≤ 1 =
          subst (λ (p : Path). length p.steps ≤ 1) (x.2 ∙ ap (λ p. extension p x.1) y.2) l in
          omega arith)
    ]
  ]

  abbrev Reaches : Path → Type 0
  Reaches u = IsShort u ⊎ (((u ≡ by_b) × (pruned prune (by from_a ab) ≡ false))
      ⊎ ((u ≡ by_c) × (pruned prune (by from_a ac) ≡ false)))

  -- the only paths that may be chosen
  only : (T : List Path) → Paths T → (u : Path) → IsIn u T → Reaches u
  only T c u i = elim (c.built u i) [
    | inl e ↦ inl (inl e)
    | inr x ↦
        let long : length (extension x.0 x.1).steps ≤ 2 =
        subst (λ (p : Path). length p.steps ≤ 2) x.2 (c.short u i) in
        elim (short_path T c x.0 x.3 (omega arith)) [
          | inl e ↦ inl (first_step u x.0 x.1 x.2 e x.5)
          | inr j ↦ elim j [
            | inl e ↦ elim (subst (λ (p : Path). IsIn x.1 (steps_from Outbound edges (end_of p))) e x.5) [
              | inl f ↦ inr (inl (x.2 ∙ ap₂ extension e f, subst (λ p. pruned prune p ≡ false) e x.4))
              | inr k ↦ absurd k
            ]
            | inr e ↦ elim (subst (λ (p : Path). IsIn x.1 (steps_from Outbound edges (end_of p))) e x.5) [
              | inl f ↦ inr (inr (x.2 ∙ ap₂ extension e f, subst (λ p. pruned prune p ≡ false) e x.4))
              | inr k ↦ absurd k
            ]
          ]
        ]
  ]

  other : (v : Datum) (t p : Path) → same v v ≡ true → same v (keys_at diamond p) ≡ false
      → v ≡ keys_at diamond t → t ≡ p → ⊥
  other v t p s d e f = differ v (keys_at diamond p) s d (e ∙ ap (keys_at diamond) f)

  is_by_b : (t : Path) → path_abd ≡ keys_at diamond t → Reaches t
      → (t ≡ by_b) × (pruned prune (by from_a ab) ≡ false)
  is_by_b t e (inl (inl f)) = absurd (other path_abd t from_a refl refl e f)
  is_by_b t e (inl (inr (inl f))) = absurd (other path_abd t (by from_a ab) refl refl e f)
  is_by_b t e (inl (inr (inr f))) = absurd (other path_abd t (by from_a ac) refl refl e f)
  is_by_b t e (inr (inl f)) = f
  is_by_b t e (inr (inr f)) = absurd (other path_abd t by_c refl refl e f.0)

  is_by_c : (t : Path) → path_acd ≡ keys_at diamond t → Reaches t → t ≡ by_c
  is_by_c t e (inl (inl f)) = absurd (other path_acd t from_a refl refl e f)
  is_by_c t e (inl (inr (inl f))) = absurd (other path_acd t (by from_a ab) refl refl e f)
  is_by_c t e (inl (inr (inr f))) = absurd (other path_acd t (by from_a ac) refl refl e f)
  is_by_c t e (inr (inl f)) = absurd (other path_acd t by_b refl refl e f.0)
  is_by_c t e (inr (inr f)) = f.0

  is_ab : (t : Path) → path_ab ≡ keys_at diamond t → Reaches t → t ≡ by from_a ab
  is_ab t e (inl (inl f)) = absurd (other path_ab t from_a refl refl e f)
  is_ab t e (inl (inr (inl f))) = f
  is_ab t e (inl (inr (inr f))) = absurd (other path_ab t (by from_a ac) refl refl e f)
  is_ab t e (inr (inl f)) = absurd (other path_ab t by_b refl refl e f.0)
  is_ab t e (inr (inr f)) = absurd (other path_ab t by_c refl refl e f.0)

or_true : (b : Bool) → (b || true) ≡ true
or_true true = refl
or_true false = refl

reached : (id : List ℕ) (u : Path) (T : List Path) → IsIn u T → id ≡ end_of u → is_reached id T ≡ true
reached id u [] i f = absurd i
reached id u (t ∷ T) (inl e) f =
    ap (λ b. b || is_reached id T) ((bytes_eq-Decides id (end_of t)).1 (f ∙ ap end_of e))
reached id u (t ∷ T) (inr i) f =
    ap (λ b. bytes_eq id (end_of t) || b) (reached id u T i f) ∙ or_true (bytes_eq id (end_of t))

one_end : (t u : Path) (T : List Path) → AreApart T → IsIn t T → IsIn u T → end_of t ≡ end_of u → t ≡ u
one_end t u [] a i j e = absurd i
one_end t u (p ∷ T) a (inl h) (inl k) e = h ∙ sym k
one_end t u (p ∷ T) a (inl h) (inr j) e =
    absurd (true≢false (sym (reached (end_of p) u T j (sym (ap end_of h) ∙ e)) ∙ a.0))
one_end t u (p ∷ T) a (inr i) (inl k) e =
    absurd (true≢false (sym (reached (end_of p) t T i (sym (ap end_of k) ∙ sym e)) ∙ a.0))
one_end t u (p ∷ T) a (inr i) (inr j) e = one_end t u T a.1 i j e

pub two_paths : IsAnswer diamond (chosen_paths None) empty_row
    (path_ab ∷ path_ac ∷ path_abd ∷ path_acd ∷ []) → ⊥
two_paths h =
    let c = chosen_in diamond None _ h in
    let b = c.from path_abd (inr (inr (inl refl))) in
    let d = c.from path_acd (inr (inr (inr (inl refl)))) in
    let is_b = (is_by_b None b.0 b.2 (only None c.paths c.chosen b.0 b.1)).0 in
    let is_c = is_by_c None d.0 d.2 (only None c.paths c.chosen d.0 d.1) in
    other None path_abd b.0 by_c refl refl b.2
    (one_end b.0 d.0 c.paths c.chosen.apart b.1 d.1 (ap end_of is_b ∙ sym (ap end_of is_c)) ∙ is_c)

elsewhere : (u p : Path) → same (text (end_of p)) (text (end_of p)) ≡ true
    → same (text (end_of p)) (str "n/d") ≡ false → end_of u ≡ codes "n/d" → u ≡ p → ⊥
elsewhere u p s d to e =
    differ (text (end_of p)) (str "n/d") s d (ap (λ id. text id) (sym (ap end_of e) ∙ to))

pub vertex_left_out : IsAnswer diamond (chosen_paths None) empty_row (path_ab ∷ path_ac ∷ []) → ⊥
vertex_left_out h =
    let c = chosen_in diamond None _ h in
    let b = c.from path_ab (inl refl) in
    let is = is_ab None b.0 b.2 (only None c.paths c.chosen b.0 b.1) in
    let u = c.chosen.reaches b.0 b.1 refl
    (subst (λ (p : Path). length p.steps < 2) (sym is) (let k : 1 < 2 = omega arith in k)) (along bd)
    (subst (λ (p : Path). IsIn (along bd) (steps_from Outbound edges (end_of p))) (sym is) (inl refl)) in
    by_cases c u.0 u.1 u.2 (only None c.paths c.chosen u.0 u.1)
  where
    by_cases : (c : Chosen diamond None (path_ab ∷ path_ac ∷ [])) (u : Path) → IsIn u c.paths
        → end_of u ≡ codes "n/d" → Reaches None u → ⊥
    by_cases c u i to (inl (inl e)) = elsewhere u from_a refl refl to e
    by_cases c u i to (inl (inr (inl e))) = elsewhere u (by from_a ab) refl refl to e
    by_cases c u i to (inl (inr (inr e))) = elsewhere u (by from_a ac) refl refl to e
    by_cases c u i to (inr (inl e)) = absent path_abd (path_ab ∷ path_ac ∷ []) refl refl
        (subst (λ (v : Datum). IsIn v (path_ab ∷ path_ac ∷ [])) (ap (keys_at diamond) e.0)
        (c.given u i (ap (λ (t : Path). nat_le 1 (length t.steps)) e.0)))
    by_cases c u i to (inr (inr e)) = absent path_acd (path_ab ∷ path_ac ∷ []) refl refl
        (subst (λ (v : Datum). IsIn v (path_ab ∷ path_ac ∷ [])) (ap (keys_at diamond) e.0)
        (c.given u i (ap (λ (t : Path). nat_le 1 (length t.steps)) e.0)))

pub beyond_pruned_b : IsAnswer diamond (chosen_paths (at_key "b")) empty_row
    (path_ab ∷ path_ac ∷ path_abd ∷ []) → ⊥
beyond_pruned_b h =
    let c = chosen_in diamond (at_key "b") _ h in
    let b = c.from path_abd (inr (inr (inl refl))) in
    true≢false (is_by_b (at_key "b") b.0 b.2 (only (at_key "b") c.paths c.chosen b.0 b.1)).1
