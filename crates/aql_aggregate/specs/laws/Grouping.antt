-- The groups of rows: each once, each of as many criteria as there are variables.
use Rattle.std.proofs.Common.{◌≡◌, ℕ, List, [], ◌∷◌, map, filter, length, Bool, true, false, cond, ◌||◌, refl, sym, ap, subst, ◌∙◌, arith}
use Rattle.std.specs.List.{list_any, AllByRecursion}
use Rattle.aql_value.specs.Datum.{Datum}
use Rattle.aql_value.specs.Contents.{list, elements, same, is_in, is_below}
use Rattle.aql_value.specs.laws.Lists.{datum_list-array_of}
use Rattle.aql_func.specs.Lists.{firsts, among, sort_values, distinct}
use Rattle.aql_func.specs.laws.Firsts.{same_is, same_flip}
use Rattle.aql_tree.specs.declared.syntax.Ident.{Ident}
use Rattle.aql_meaning.specs.Groups.{GroupedRow, groups, rows_of_group}
use Rattle.aql_aggregate.specs.laws.Totals.{first_false, second_false}
use Rattle.aql_aggregate.specs.laws.Members.{Once, once_firsts, in_among, in_sorted, in_distinct}

-- what a list of values has, it has in ascending order without repetitions
all_kept : (P : Datum → Type 0) (p : Datum → Bool) (ts : List Datum) → AllByRecursion P ts
    → AllByRecursion P (filter p ts)
all_kept P p [] h = tt
all_kept P p (t ∷ ts) h = by (p t) (all_kept P p ts h.1)
  where
    by : (b : Bool) → AllByRecursion P (filter p ts) → AllByRecursion P (cond b (t ∷ filter p ts)
        (filter p ts))
    by true ih = (h.0, ih)
    by false ih = ih

all_firsts : (P : Datum → Type 0) (ts : List Datum) → AllByRecursion P ts → AllByRecursion P (firsts ts)
all_firsts P [] h = tt
all_firsts P (t ∷ ts) h = (h.0, all_kept P _ (firsts ts) (all_firsts P ts h.1))

all_among : (P : Datum → Type 0) (t : Datum) (ts : List Datum) → P t → AllByRecursion P ts
    → AllByRecursion P (among t ts)
all_among P t [] p h = (p, tt)
all_among P t (u ∷ us) p h = by (is_below u t) (all_among P t us p h.1)
  where
    by : (b : Bool) → AllByRecursion P (among t us) → AllByRecursion P (cond b (u ∷ among t us) (t ∷ u ∷ us))
    by true ih = (h.0, ih)
    by false ih = (p, h)

all_sorted : (P : Datum → Type 0) (ts : List Datum) → AllByRecursion P ts → AllByRecursion P (sort_values ts)
all_sorted P [] h = tt
all_sorted P (t ∷ ts) h = all_among P t (sort_values ts) h.0 (all_sorted P ts h.1)

pub all_distinct : (P : Datum → Type 0) (ts : List Datum) → AllByRecursion P ts
    → AllByRecursion P (distinct ts)
all_distinct P ts h = all_sorted P (firsts ts) (all_firsts P ts h)

once_among : (t : Datum) (us : List Datum) → is_in us t ≡ false → Once us → Once (among t us)
once_among t [] e o = (refl, tt)
once_among t (u ∷ us) e o = by (is_below u t) (once_among t us (second_false _ _ e) o.1)
  where
    apart : same u t ≡ false
    apart = same_flip u t ∙ first_false _ _ e

    by : (b : Bool) → Once (among t us) → Once (cond b (u ∷ among t us) (t ∷ u ∷ us))
    by true ih = (in_among t us u ∙ ap (λ b. b || is_in us u) apart ∙ o.0, ih)
    by false ih = (e, o)

once_sorted : (ts : List Datum) → Once ts → Once (sort_values ts)
once_sorted [] o = tt
once_sorted (t ∷ ts) o = once_among t (sort_values ts) (in_sorted ts t ∙ o.0) (once_sorted ts o.1)

once_distinct : (ts : List Datum) → Once (distinct ts)
once_distinct ts = once_sorted (firsts ts) (once_firsts ts)

-- the criteria of a row as one array
abbrev pub key : GroupedRow → Datum
key row = list row.criteria

abbrev IsList : Datum → Type 0
IsList t = list (elements t) ≡ t

keys_are_lists : (grouped : List GroupedRow) → AllByRecursion IsList (map key grouped)
keys_are_lists [] = tt
keys_are_lists (row ∷ rows) = (ap list (datum_list-array_of row.criteria), keys_are_lists rows)

opened : (ts : List Datum) → AllByRecursion IsList ts → map list (map elements ts) ≡ ts
opened [] h = refl
opened (t ∷ ts) h = ap (λ u. u ∷ map list (map elements ts)) h.0 ∙ ap (λ us. t ∷ us) (opened ts h.1)

pub group_keys : (x : Ident) (xs : List Ident) (grouped : List GroupedRow)
    → map list (groups (x ∷ xs) grouped) ≡ distinct (map key grouped)
group_keys x xs grouped = opened (distinct (map key grouped)) (all_distinct IsList (map key grouped)
    (keys_are_lists grouped))

pub once_groups : (xs : List Ident) (grouped : List GroupedRow) → Once (map list (groups xs grouped))
once_groups [] grouped = (refl, tt)
once_groups (x ∷ xs) grouped = subst Once (sym (group_keys x xs grouped)) (once_distinct (map key grouped))

-- as many criteria as n
abbrev pub Fitting : ℕ → List GroupedRow → Type 0
Fitting n grouped = AllByRecursion (λ row. length row.criteria ≡ n) grouped

pub groups_fit : (xs : List Ident) (grouped : List GroupedRow) → Fitting (length xs) grouped
    → AllByRecursion (λ c. length c ≡ length xs) (groups xs grouped)
groups_fit [] grouped h = (refl, tt)
groups_fit (x ∷ xs) grouped h = taken (distinct (map key grouped))
    (all_distinct (λ t. length (elements t) ≡ length (x ∷ xs)) (map key grouped) (keys grouped h))
  where
    keys : (grouped : List GroupedRow) → Fitting (length (x ∷ xs)) grouped
        → AllByRecursion (λ t. length (elements t) ≡ length (x ∷ xs)) (map key grouped)
    keys [] h = tt
    keys (row ∷ rows) h = (ap length (datum_list-array_of row.criteria) ∙ h.0, keys rows h.1)

    taken : (ts : List Datum) → AllByRecursion (λ t. length (elements t) ≡ length (x ∷ xs)) ts
        → AllByRecursion (λ c. length c ≡ length (x ∷ xs)) (map elements ts)
    taken [] h = tt
    taken (t ∷ ts) h = (h.0, taken ts h.1)

-- of lists of which each is there once, those that are c
pub picked : (c : List Datum) (cs : List (List Datum)) → Once (map list cs)
    → filter (λ other. same (list c) (list other)) cs ≡ cond (is_in (map list cs) (list c)) (c ∷ []) []
picked c [] o = refl
picked c (other ∷ cs) o = by (same (list c) (list other)) refl (picked c cs o.1)
  where
    by : (b : Bool) → same (list c) (list other) ≡ b
        → filter (λ other. same (list c) (list other)) cs ≡ cond (is_in (map list cs) (list c)) (c ∷ []) []
        → cond b (other ∷ filter (λ other. same (list c) (list other)) cs)
        (filter (λ other. same (list c) (list other)) cs) ≡ cond (b || is_in (map list cs) (list c))
        (c ∷ []) []
    by true e ih =
        let f = same_is (list c) (list other) e in
        let g : c ≡ other = sym (datum_list-array_of c) ∙ ap elements f ∙ datum_list-array_of other in
        ap (λ l. other ∷ l) (ih ∙ ap (λ b. cond b (c ∷ []) []) (ap (is_in (map list cs)) f ∙ o.0))
        ∙ ap (λ l. l ∷ []) (sym g)
    by false e ih = ih

pub none_pass : {X : Type 0} (p : X → Bool) (f : X → Datum) (q : Datum → Bool) → ((x : X) → p x ≡ q (f x))
    → (rows : List X) → list_any q (map f rows) ≡ false → filter p rows ≡ []
none_pass p f q h [] e = refl
none_pass p f q h (x ∷ rows) e =
    ap (λ b. cond b (x ∷ filter p rows) (filter p rows)) (h x ∙ first_false _ _ e)
    ∙ none_pass p f q h rows (second_false _ _ e)

-- criteria that no group has, no row has
pub no_rows : (c : List Datum) (xs : List Ident) (grouped : List GroupedRow) → Fitting (length xs) grouped
    → is_in (map list (groups xs grouped)) (list c) ≡ false → rows_of_group c grouped ≡ []
no_rows c [] [] h e = refl
no_rows c [] (row ∷ rows) h e =
    ap (λ b. cond b (row ∷ rows_of_group c rows) (rows_of_group c rows))
    (ap (λ cs. same (list c) (list cs)) (empty row.criteria h.0) ∙ first_false _ _ e)
    ∙ no_rows c [] rows h.1 e
  where
    empty : (cs : List Datum) → length cs ≡ 0 → cs ≡ []
    empty [] e = refl
    empty (t ∷ ts) e = absurd (omega (arith, e))
no_rows c (x ∷ xs) grouped h e = none_pass _ key (same (list c)) (λ row. refl) grouped
    (sym (in_distinct (map key grouped) (list c)) ∙ ap (λ ks. is_in ks (list c)) (sym
    (group_keys x xs grouped)) ∙ e)
