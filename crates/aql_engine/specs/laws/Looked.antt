-- Where a node looks at what is kept of documents alone, and hands on no row, it makes the same of whole
-- documents.
use Rattle.std.proofs.Common.{◌≡◌, ◌∙◌, ℕ, ◌+◌, List, [], ◌∷◌, map, length, Bool, true, false, true≢false, cond, refl, ap, sym, subst, arith}
use Rattle.std.specs.Prelude.{Option, Some, None, not, ◌||◌, ◌&&◌}
use Rattle.std.specs.List.{AllZip, AllByRecursion, list_all}
use Rattle.std.proofs.lemmas.Bool.{and_parts}
use Rattle.std.proofs.lemmas.Slice.Zip.{AllZip-long}
use Rattle.aql_value.specs.Datum.{Datum}
use Rattle.aql_tree.specs.declared.syntax.Ident.{Ident}
use Rattle.aql_tree.specs.Tree.{ExprTree}
use Rattle.aql_meaning.specs.AtRows.{passes}
use Rattle.aql_meaning.specs.Clauses.{return_values}
use Rattle.aql_meaning.specs.Documents.{Scanned}
use Rattle.aql_meaning.specs.Row.{Row, same_ident}
use Rattle.aql_meaning.specs.Uses.{Use, Whole, Attribute, Uses, Agree}
use Rattle.aql_plan.specs.Needs.{own_uses, under}
use Rattle.aql_plan.specs.Plan.{Reading, Node, EnumerateCollection, Calculation, Filter, Sort, Limit, Collect, Return}
use Rattle.aql_plan.specs.Runs.{Dataset, Outside, read, result_row, Gives}
use Rattle.aql_plan_laws.specs.laws.Agreement.{rows_agree, gives_agree}
use Rattle.aql_plan_laws.specs.laws.Lists.{weaker, related_back}
use Rattle.aql_plan_laws.specs.laws.Projections.{among, IsCovered, AreCovered, cut_alike, grouped_alike, values_alike}
use Rattle.aql_exec.specs.Counting.{GivesCounting}
use Rattle.aql_exec.specs.Rests.{Counter, scanned_full, filtered, Counts, Rest}
use Rattle.aql_exec.specs.Operators.{OnRows, OperatorTree, within, ProducesOver, exact_tree}
use Rattle.aql_engine.specs.OperatorsOf.{node_at, is_covered, reading_for, last_looks, passed_looks, looked_at, on_top}

-- ---- what is looked at is kept

is_other : (b : Bool) → not b ≡ true → b ≡ false
is_other true h = absurd (true≢false (sym h))
is_other false h = refl

is_kept_name : (b k : Bool) → (not b || k) ≡ true → b ≡ true → k ≡ true
is_kept_name true k h e = h
is_kept_name false k h e = absurd (true≢false (sym e))

one_covered : (x : Ident) (names : List (List ℕ)) (u : Use) → is_covered x (Some names) u ≡ true
    → IsCovered x names u
one_covered x names (Whole y) h = is_other (same_ident x y) h
one_covered x names (Attribute y name) h = is_kept_name (same_ident x y) (among names name) h

are_covered : (x : Ident) (attrs : Option (List (List ℕ))) (us : Uses)
    → list_all (is_covered x attrs) us ≡ true → AreCovered x attrs us
are_covered x None us h = tt
are_covered x (Some names) [] h = tt
are_covered x (Some names) (u ∷ us) h =
    let k = and_parts (is_covered x (Some names) u) (list_all (is_covered x (Some names)) us) h in
    (one_covered x names u k.0, are_covered x (Some names) us k.1)

-- ---- to rows with whole documents there are rows with these documents cut

cut : (us : Uses) (x : Reading) (reads : Row → List Datum) (rows out : List Row) (b : Bool)
    → list_all (is_covered x.var x.attrs) us ≡ b
    → Scanned x.var (passes x.filter) (cond b None x.attrs) reads rows out
    → (kept : List Row) × Scanned x.var (passes x.filter) x.attrs reads rows kept × AllZip (Agree us) kept out
cut us x reads rows out true e g =
    cut_alike us x.var x.attrs (are_covered x.var x.attrs us e) (passes x.filter) reads rows out g
cut us x reads rows out false e g = (out, g, rows_agree us out)

-- ---- rows that agree

agree_back : (us : Uses) (r s : Row) → Agree us r s → Agree us s r
agree_back [] r s h = tt
agree_back (Whole x ∷ us) r s h = (sym h.0, agree_back us r s h.1)
agree_back (Attribute x name ∷ us) r s h = (sym h.0, agree_back us r s h.1)

rows_back : (us : Uses) (rows others : List Row) → AllZip (Agree us) rows others → AllZip (Agree us) others rows
rows_back us rows others h = weaker (λ r s. Agree us s r) (Agree us) (λ r s k. agree_back us s r k) others rows
    (related_back (Agree us) rows others h)

module _ (w : Dataset) (start : Row) (us : Uses) where
  -- a node gives of rows that agree in what is used rows that agree in what is used of these
  passes_on : (n : Node) (rows others out : List Row) → AllZip (Agree (under n us)) others rows
      → Gives n w Outside start rows out
      → (more : List Row) × Gives n w Outside start others more × AllZip (Agree us) more out
  passes_on n rows others out h g =
      let k = gives_agree n us w Outside Outside start (λ coll shard. refl) rows others out
      (rows_back (under n us) others rows h) g in
      (k.0, k.1, rows_back us out k.0 k.2)

  -- and counts as much
  filter_counts : (e : ExprTree) (rows others out : List Row) (d : Counts)
      → AllZip (Agree (under (Filter e) us)) others rows → GivesCounting (Filter e) w start rows out d
      → (more : List Row) × GivesCounting (Filter e) w start others more d × AllZip (Agree us) more out
  filter_counts e rows others out d h g =
      let k = passes_on (Filter e) rows others out h g.0 in
      let came : length rows ≡ length others = AllZip-long (Agree (under (Filter e) us)) others rows h in
      let gone : length out ≡ length k.0 = AllZip-long (Agree us) k.0 out k.2 in
      let sum = g.3 in
      (k.0, (k.1, g.1, g.2, omega (arith, came, gone, sum)), k.2)

module _ (w : Dataset) (came : List Row) (row : Row) where
  abbrev Kept : Uses → OperatorTree → Rest → Type 0
  Kept us t r = (kept : Rest) × ProducesOver t w came row kept × ((c : Counter) → kept.counts c ≡ r.counts c)
      × AllZip (Agree us) kept.rows r.rows

  -- a node over rows of cut documents, from the same over whole ones
  handed : (n : Node) (us : Uses) (below body : OperatorTree) (r : Rest)
      → (h : ProducesOver (within (OnRows n) (looked_at (passed_looks n us) below) body) w came row r)
      → (input : Rest) → ProducesOver below w came row input
      → ((c : Counter) → input.counts c ≡ (h.0 0).counts c)
      → (out : List Row) → GivesCounting n w row input.rows out h.2.0 → AllZip (Agree us) out r.rows
      → Kept us (within (OnRows n) below body) r
  handed n us below body r h input made counts out gives agree = (
    record { rows = out; counts = r.counts },
    (
      λ j. input,
      made,
      (h.2.0, gives, h.2.2, λ c. h.2.3 c ∙ ap (λ m. m + h.2.0 c) (sym (counts c))),
    ),
    λ c. refl,
    agree,
  )

  looked_gives : (us : Uses) (t : OperatorTree) (r : Rest) → ProducesOver (looked_at (Some us) t) w came row r
      → Kept us t r
  looked_gives us (within (OnRows (EnumerateCollection x)) below body) r h =
      let d = h.2.0 in
      let k = cut us x (λ q. read w x.coll x.shard Outside) (h.0 0).rows r.rows
      (list_all (is_covered x.var x.attrs) us) refl h.2.1.0 in
      let long : length r.rows ≡ length k.0 = AllZip-long (Agree us) k.0 r.rows k.2 in (
        record { rows = k.0; counts = r.counts },
        (
          h.0,
          h.1,
          (
            d,
            (
              k.1,
              h.2.1.1,
              h.2.1.2,
              subst (λ (n : ℕ). d filtered + n ≡ d scanned_full) long h.2.1.3,
            ),
            h.2.2,
            h.2.3,
          ),
        ),
        λ c. refl,
        k.2,
      )
  looked_gives us (within (OnRows (Calculation x e)) below body) r h =
      let k = looked_gives (under (Calculation x e) us) below (h.0 0) h.1 in
      let m = passes_on w row us (Calculation x e) (h.0 0).rows k.0.rows r.rows k.3 h.2.1.0 in
      handed (Calculation x e) us below body r h k.0 k.1 k.2 m.0 (m.1, h.2.1.1) m.2
  looked_gives us (within (OnRows (Filter e)) below body) r h =
      let k = looked_gives (under (Filter e) us) below (h.0 0) h.1 in
      let m = filter_counts w row us e (h.0 0).rows k.0.rows r.rows h.2.0 k.3 h.2.1 in
      handed (Filter e) us below body r h k.0 k.1 k.2 m.0 m.1 m.2
  looked_gives us (within (OnRows (Sort directions es n)) below body) r h =
      let k = looked_gives (under (Sort directions es n) us) below (h.0 0) h.1 in
      let m = passes_on w row us (Sort directions es n) (h.0 0).rows k.0.rows r.rows k.3 h.2.1.0 in
      handed (Sort directions es n) us below body r h k.0 k.1 k.2 m.0 (m.1, h.2.1.1) m.2
  looked_gives us (within (OnRows (Limit offset count)) below body) r h =
      let k = looked_gives (under (Limit offset count) us) below (h.0 0) h.1 in
      let m = passes_on w row us (Limit offset count) (h.0 0).rows k.0.rows r.rows k.3 h.2.1.0 in
      handed (Limit offset count) us below body r h k.0 k.1 k.2 m.0 (m.1, h.2.1.1) m.2
  looked_gives us t r h = (r, h, λ c. refl, rows_agree us r.rows)

  -- a node over whole documents gives what it gives over those that are cut
  pub looked_runs : (at : Option ℕ) (n : Node) (t : OperatorTree) (r : Rest)
      → ProducesOver (on_top (OnRows (node_at at n)) (looked_at (last_looks n) t)) w came row r
      → ProducesOver (on_top (OnRows (node_at at n)) t) w came row r
  looked_runs at (Collect xs es gs i s) t r h =
      let k = looked_gives (own_uses (Collect xs es gs i s)) t (h.0 0) h.1 in (
        λ j. k.0,
        k.1,
        (
          h.2.0,
          (
            grouped_alike xs es gs i s row k.0.rows (h.0 0).rows r.rows k.3 h.2.1.0,
            h.2.1.1,
          ),
          h.2.2,
          λ c. h.2.3 c ∙ ap (λ n. n + h.2.0 c) (sym (k.2 c)),
        ),
      )
  looked_runs at (Return distinct e) t r h =
      let k = looked_gives (own_uses (Return distinct e)) t (h.0 0) h.1 in (
        λ j. k.0,
        k.1,
        (
          h.2.0,
          (
            h.2.1.0 ∙ ap (λ vs. map result_row (return_values distinct vs))
                (sym (values_alike e k.0.rows (h.0 0).rows k.3)),
            h.2.1.1,
          ),
          h.2.2,
          λ c. h.2.3 c ∙ ap (λ n. n + h.2.0 c) (sym (k.2 c)),
        ),
      )
  looked_runs at n t r h = h

-- ---- what is counted exactly is so all the same

looked_as_exact : (us : Uses) (t : OperatorTree) (c : Counter)
    → exact_tree (looked_at (Some us) t) c ≡ exact_tree t c
looked_as_exact us (within (OnRows (EnumerateCollection x)) below body) c = refl
looked_as_exact us (within (OnRows (Calculation x e)) below body) c =
    ap (λ b. b && exact_tree body c) (looked_as_exact (under (Calculation x e) us) below c)
looked_as_exact us (within (OnRows (Filter e)) below body) c =
    ap (λ b. b && exact_tree body c) (looked_as_exact (under (Filter e) us) below c)
looked_as_exact us (within (OnRows (Sort directions es n)) below body) c =
    ap (λ b. b && exact_tree body c) (looked_as_exact (under (Sort directions es n) us) below c)
looked_as_exact us (within (OnRows (Limit offset count)) below body) c = refl
looked_as_exact us t c = refl

pub looked_exact : (n : Node) (t : OperatorTree) (c : Counter)
    → exact_tree (looked_at (last_looks n) t) c ≡ exact_tree t c
looked_exact (Collect xs es gs i s) t c = looked_as_exact (own_uses (Collect xs es gs i s)) t c
looked_exact (Return distinct e) t c = looked_as_exact (own_uses (Return distinct e)) t c
looked_exact n t c = refl
