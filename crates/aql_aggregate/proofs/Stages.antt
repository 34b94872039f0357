-- A COLLECT in two stages is that COLLECT.
use Rattle.std.proofs.Common.{◌≡◌, ℕ, suc, ◌+◌, List, [], ◌∷◌, ◌++◌, map, filter, length, Bool, true, false, cond, ◌||◌, Option, Some, None, unwrap_or, option_map, refl, sym, ap, subst, ◌∙◌, arith}
use Rattle.std.specs.List.{AllZip, AllByRecursion}
use Rattle.std.proofs.lemmas.List.{map-append}
use Rattle.std.proofs.lemmas.List.Elements.{filter-append}
use Rattle.aql_value.specs.Datum.{Datum, null}
use Rattle.aql_value.specs.Contents.{list, elements, same, is_in}
use Rattle.aql_func.specs.Aggregates.{Aggregate, aggregate, aggregate_named, state, join}
use Rattle.aql_func.specs.Arguments.{argument}
use Rattle.aql_func.specs.Lists.{distinct}
use Rattle.aql_func.specs.laws.Shuffles.{Shuffled, none, skip, flip, chain, shuffled}
use Rattle.aql_tree.specs.declared.syntax.Ident.{Ident}
use Rattle.aql_tree.specs.Tree.{ExprTrees, AggregateTrees, no_aggregates, aggregate_then, no_into}
use Rattle.aql_meaning.specs.declared.grouping.Stage.TheVariants.{Whole, Final}
use Rattle.aql_meaning.specs.Row.{Row, bind_all, value_at}
use Rattle.aql_meaning.specs.Value.{values}
use Rattle.aql_meaning.specs.Visible.{aggregate_vars, functions_by}
use Rattle.aql_meaning.specs.Groups.{GroupedRow, groups, rows_of_group, aggregate_of, aggregate_values, group_row}
use Rattle.aql_meaning.specs.Stages.{grouped_row_at, state_of, joined_of}
use Rattle.aql_aggregate.specs.Theorems.{all_of, are_distinct, HandsOn, TwoStagesAreOne}
use Rattle.aql_aggregate.specs.laws.Totals.{any_append}
use Rattle.aql_aggregate.specs.laws.Members.{Alike, in_distinct, distinct_alike}
use Rattle.aql_aggregate.specs.laws.Order.{same_any, same_aggregate, same_join, mapped}
use Rattle.aql_aggregate.proofs.Joined.{joined}
use Rattle.aql_aggregate.proofs.Binding.{read_back, read_under, left_distinct, right_distinct}
use Rattle.aql_aggregate.specs.laws.Grouping.{key, Fitting, group_keys, once_groups, groups_fit, picked, no_rows}

filter_mapped : {A B : Type 0} (p : B → Bool) (f : A → B) (xs : List A)
    → filter p (map f xs) ≡ map f (filter (λ x. p (f x)) xs)
filter_mapped p f [] = refl
filter_mapped p f (x ∷ xs) = by (p (f x)) (filter_mapped p f xs)
  where
    by : (b : Bool) → filter p (map f xs) ≡ map f (filter (λ x. p (f x)) xs)
        → cond b (f x ∷ filter p (map f xs)) (filter p (map f xs))
        ≡ map f (cond b (x ∷ filter (λ x. p (f x)) xs) (filter (λ x. p (f x)) xs))
    by true ih = ap (λ l. f x ∷ l) ih
    by false ih = ih

sieved : {A : Type 0} (p : A → Bool) {xs ys : List A} → Shuffled xs ys → Shuffled (filter p xs) (filter p ys)
sieved p none = none
sieved p (skip x {xs} {ys} s) = by (p x) (sieved p s)
  where
    by : (b : Bool) → Shuffled (filter p xs) (filter p ys)
        → Shuffled (cond b (x ∷ filter p xs) (filter p xs)) (cond b (x ∷ filter p ys) (filter p ys))
    by true ih = skip x ih
    by false ih = ih
sieved p (flip x y xs) = by (p x) (p y)
  where
    same : {A : Type 0} (l : List A) → Shuffled l l
    same [] = none
    same (x ∷ l) = skip x (same l)

    by : (b c : Bool) → Shuffled (cond b (x ∷ cond c (y ∷ filter p xs) (filter p xs)) (cond c
        (y ∷ filter p xs) (filter p xs)))
        (cond c (y ∷ cond b (x ∷ filter p xs) (filter p xs)) (cond b (x ∷ filter p xs) (filter p xs)))
    by true true = flip x y (filter p xs)
    by true false = same _
    by false true = same _
    by false false = same _
sieved p (chain s t) = chain (sieved p s) (sieved p t)

-- the states of an aggregate by its name
joined_by_name : (name : List ℕ) (kept : List (List Datum))
    → joined_of name (map (state_of name) kept) ≡ aggregate_of name (all_of kept)
joined_by_name name kept = by (aggregate_named name)
  where
    by : (o : Option Aggregate)
        → unwrap_or (option_map (λ kind. join kind (map (λ ts. unwrap_or (option_map
        (λ kind. state kind ts) o) null) kept)) o) null
        ≡ unwrap_or (option_map (λ kind. aggregate kind (all_of kept)) o) null
    by None = refl
    by (Some kind) = joined kind kept

join_by_name : (name : List ℕ) {ss us : List Datum} → Shuffled ss us → joined_of name ss ≡ joined_of name us
join_by_name name {ss} {us} s = by (aggregate_named name)
  where
    by : (o : Option Aggregate) → unwrap_or (option_map (λ kind. join kind ss) o) null
        ≡ unwrap_or (option_map (λ kind. join kind us) o) null
    by None = refl
    by (Some kind) = same_join kind s

aggregate_by_name : (name : List ℕ) {ts us : List Datum} → Shuffled ts us → aggregate_of name ts
    ≡ aggregate_of name us
aggregate_by_name name {ts} {us} s = by (aggregate_named name)
  where
    by : (o : Option Aggregate) → unwrap_or (option_map (λ kind. aggregate kind ts) o) null
        ≡ unwrap_or (option_map (λ kind. aggregate kind us) o) null
    by None = refl
    by (Some kind) = same_aggregate kind s

as_many : (f : List ℕ → List Datum → Datum) (gs : AggregateTrees) (n : ℕ) (ms : List GroupedRow)
    → length (aggregate_values (functions_by f gs) n ms) ≡ length (aggregate_vars gs)
as_many f no_aggregates n ms = refl
as_many f (aggregate_then x name e rest) n ms = ap suc (as_many f rest (n + 1) ms)

-- the arguments at a place, of the rows of a group
abbrev at_group : ℕ → List Datum → List GroupedRow → List Datum
at_group n c grouped = map (λ (row : GroupedRow). argument row.arguments n) (rows_of_group c grouped)

module _ (xs : List Ident) (es : ExprTrees) (gs : AggregateTrees)
    (d : are_distinct (xs ++ aggregate_vars gs) ≡ true)
    (fits : (row : Row) → length (values es null row) ≡ length xs) where
  -- a row as the first stage sees it, and as the second sees what comes to it
  abbrev early : Row → GroupedRow
  early row = grouped_row_at Whole xs es gs no_into row

  abbrev late : Row → GroupedRow
  late row = grouped_row_at Final xs es gs no_into row

  abbrev states : List GroupedRow → List Datum
  states ms = aggregate_values (functions_by state_of gs) 0 ms

  abbrev handed_row : List GroupedRow → List Datum → GroupedRow
  handed_row grouped c = record {
    criteria = c;
    arguments = states (rows_of_group c grouped);
    into_value = null;
  }

  all_fit : (rows : List Row) → Fitting (length xs) (map early rows)
  all_fit [] = tt
  all_fit (row ∷ rows) = (fits row, all_fit rows)

  seen_again : (start : Row) (grouped : List GroupedRow) (c : List Datum) → length c ≡ length xs
      → late (group_row xs (aggregate_vars gs) (functions_by state_of gs) start grouped c)
      ≡ handed_row grouped c
  seen_again start grouped c l =
      let vs = states (rows_of_group c grouped) in
      let under = bind_all xs c start in
      ap (λ (cs : List Datum). record {
        criteria = cs;
        arguments = map (value_at (bind_all (aggregate_vars gs) vs under)) (aggregate_vars gs);
        into_value = null;
      }) (read_under xs (aggregate_vars gs) d vs under ∙ read_back xs (left_distinct xs
      (aggregate_vars gs) d) c l start)
      ∙ ap (λ (found : List Datum). record { criteria = c; arguments = found; into_value = null })
      (read_back (aggregate_vars gs) (right_distinct xs (aggregate_vars gs) d) vs
      (as_many state_of gs 0 (rows_of_group c grouped)) under)

  all_seen : (start : Row) (grouped : List GroupedRow) (cs : List (List Datum)) (out : List Row)
      → AllByRecursion (λ c. length c ≡ length xs) cs
      → AllZip (λ c row. row ≡ group_row xs (aggregate_vars gs)
      (functions_by state_of gs) start grouped c) cs out
      → map late out ≡ map (handed_row grouped) cs
  all_seen start grouped [] [] f h = refl
  all_seen start grouped [] (row ∷ out) f h = absurd h
  all_seen start grouped (c ∷ cs) [] f h = absurd h
  all_seen start grouped (c ∷ cs) (row ∷ out) f h =
      ap (λ row. late row ∷ map late out) h.0
      ∙ ap (λ first. first ∷ map late out) (seen_again start grouped c f.0)
      ∙ ap (λ rest. handed_row grouped c ∷ rest) (all_seen start grouped cs out f.1 h.1)

  -- a part's rows as the second stage sees them
  part_seen : (rows out : List Row) → HandsOn xs es gs rows out
      → map late out ≡ map (handed_row (map early rows)) (groups xs (map early rows))
  part_seen rows out h = all_seen h.0 (map early rows) (groups xs (map early rows)) out
      (groups_fit xs (map early rows) (all_fit rows)) h.1

  -- of a part that has rows of these criteria one state comes, and of any other none
  state_handed : (n : ℕ) (name : List ℕ)
      → ((ms : List GroupedRow) → argument (states ms) n
      ≡ state_of name (map (λ (row : GroupedRow). argument row.arguments n) ms))
      → (c : List Datum) (grouped : List GroupedRow)
      → at_group n c (map (handed_row grouped) (groups xs grouped))
      ≡ cond (is_in (map list (groups xs grouped)) (list c)) (state_of name (at_group n c grouped) ∷ []) []
  state_handed n name is c grouped =
      ap (map (λ (row : GroupedRow). argument row.arguments n))
      (filter_mapped (λ (row : GroupedRow). same (list c) (list row.criteria)) (handed_row grouped)
      (groups xs grouped)
      ∙ ap (map (handed_row grouped)) (picked c (groups xs grouped) (once_groups xs grouped)))
      ∙ by (is_in (map list (groups xs grouped)) (list c))
    where
      by : (b : Bool) → map (λ (row : GroupedRow). argument row.arguments n) (map (handed_row grouped)
          (cond b (c ∷ []) []))
          ≡ cond b (state_of name (at_group n c grouped) ∷ []) []
      by true = ap (λ s. s ∷ []) (is (rows_of_group c grouped))
      by false = refl

  at_both : (n : ℕ) (c : List Datum) (f : Row → GroupedRow) (rows others : List Row)
      → at_group n c (map f (rows ++ others)) ≡ at_group n c (map f rows) ++ at_group n c (map f others)
  at_both n c f rows others =
      ap (at_group n c) (map-append f rows others)
      ∙ ap (map (λ (row : GroupedRow). argument row.arguments n))
      (filter-append (λ (row : GroupedRow). same (list c) (list row.criteria)) (map f rows) (map f others))
      ∙ map-append (λ (row : GroupedRow). argument row.arguments n) (rows_of_group c (map f rows))
      (rows_of_group c (map f others))

  -- the states that come for these criteria are those of parts of the members
  kept : (n : ℕ) (name : List ℕ)
      → ((ms : List GroupedRow) → argument (states ms) n
      ≡ state_of name (map (λ (row : GroupedRow). argument row.arguments n) ms))
      → (c : List Datum) (parts handed : List (List Row)) → AllZip (HandsOn xs es gs) parts handed
      → (members : List (List Datum))
      × (at_group n c (map late (all_of handed)) ≡ map (state_of name) members)
      × (all_of members ≡ at_group n c (map early (all_of parts)))
  kept n name is c [] [] h = ([], refl, refl)
  kept n name is c [] (out ∷ handed) h = absurd h
  kept n name is c (rows ∷ parts) [] h = absurd h
  kept n name is c (rows ∷ parts) (out ∷ handed) h =
      by (is_in (map list (groups xs (map early rows))) (list c)) refl (kept n name is c parts handed h.1)
    where
      first : at_group n c (map late out) ≡ cond (is_in (map list (groups xs (map early rows))) (list c))
          (state_of name (at_group n c (map early rows)) ∷ []) []
      first = ap (at_group n c) (part_seen rows out h.0) ∙ state_handed n name is c (map early rows)

      by : (b : Bool) → is_in (map list (groups xs (map early rows))) (list c) ≡ b
          → (members : List (List Datum))
          × (at_group n c (map late (all_of handed)) ≡ map (state_of name) members)
          × (all_of members ≡ at_group n c (map early (all_of parts)))
          → (members : List (List Datum))
          × (at_group n c (map late (out ++ all_of handed)) ≡ map (state_of name) members)
          × (all_of members ≡ at_group n c (map early (rows ++ all_of parts)))
      by true e ih = (
        at_group n c (map early rows) ∷ ih.0,
        at_both n c late out (all_of handed)
            ∙ ap (λ l. l ++ at_group n c (map late (all_of handed)))
            (first ∙ ap (λ b. cond b (state_of name (at_group n c (map early rows)) ∷ []) []) e)
            ∙ ap (λ l. state_of name (at_group n c (map early rows)) ∷ l) ih.1,
        ap (λ l. at_group n c (map early rows) ++ l) ih.2 ∙ sym (at_both n c early rows (all_of parts)),
      )
      by false e ih = (
        ih.0,
        at_both n c late out (all_of handed)
            ∙ ap (λ l. l ++ at_group n c (map late (all_of handed)))
            (first ∙ ap (λ b. cond b (state_of name (at_group n c (map early rows)) ∷ []) []) e)
            ∙ ih.1,
        ih.2 ∙ ap (λ l. map (λ (row : GroupedRow). argument row.arguments n) l ++ at_group n c (map early
            (all_of parts)))
            (sym (no_rows c xs (map early rows) (all_fit rows) e))
            ∙ sym (at_both n c early rows (all_of parts)),
      )

  keys_of_handed : (grouped : List GroupedRow) (cs : List (List Datum))
      → map key (map (handed_row grouped) cs) ≡ map list cs
  keys_of_handed grouped [] = refl
  keys_of_handed grouped (c ∷ cs) = ap (λ l. list c ∷ l) (keys_of_handed grouped cs)

  -- the same criteria come as the rows have
  keys_alike : (x : Ident) (ys : List Ident) → xs ≡ x ∷ ys → (parts handed : List (List Row))
      → AllZip (HandsOn xs es gs) parts handed
      → Alike (map key (map late (all_of handed))) (map key (map early (all_of parts)))
  keys_alike x ys e [] [] h t = refl
  keys_alike x ys e [] (out ∷ handed) h t = absurd h
  keys_alike x ys e (rows ∷ parts) [] h t = absurd h
  keys_alike x ys e (rows ∷ parts) (out ∷ handed) h t =
      both late out (all_of handed)
      ∙ ap (λ l. is_in (map key l) t || is_in (map key (map late (all_of handed))) t) (part_seen rows out h.0)
      ∙ ap (λ l. is_in l t || is_in (map key (map late (all_of handed))) t)
      (keys_of_handed (map early rows) (groups xs (map early rows)) ∙ opened)
      ∙ ap (λ b. b || is_in (map key (map late (all_of handed))) t) (in_distinct (map key (map early rows)) t)
      ∙ ap (λ b. is_in (map key (map early rows)) t || b) (keys_alike x ys e parts handed h.1 t)
      ∙ sym (both early rows (all_of parts))
    where
      opened : map list (groups xs (map early rows)) ≡ distinct (map key (map early rows))
      opened = ap (λ zs. map list (groups zs (map early rows))) e ∙ group_keys x ys (map early rows)

      both : (f : Row → GroupedRow) (rows others : List Row) → is_in (map key (map f (rows ++ others))) t
          ≡ is_in (map key (map f rows)) t || is_in (map key (map f others)) t
      both f rows others = ap (λ l. is_in (map key l) t) (map-append f rows others)
          ∙ ap (λ l. is_in l t) (map-append key (map f rows) (map f others))
          ∙ any_append (same t) (map key (map f rows)) (map key (map f others))

  module _ (parts handed : List (List Row)) (h : AllZip (HandsOn xs es gs) parts handed)
      (rows came : List Row) (p : Shuffled (all_of parts) rows) (q : Shuffled (all_of handed) came) where
    value_same : (n : ℕ) (name : List ℕ)
        → ((ms : List GroupedRow) → argument (states ms) n
        ≡ state_of name (map (λ (row : GroupedRow). argument row.arguments n) ms))
        → (c : List Datum) → joined_of name (at_group n c (map late came))
        ≡ aggregate_of name (at_group n c (map early rows))
    value_same n name is c =
        let k = kept n name is c parts handed h in
        sym (join_by_name name (at_shuffled late q)) ∙ ap (joined_of name) k.1 ∙ joined_by_name name k.0
        ∙ ap (aggregate_of name) k.2 ∙ aggregate_by_name name (at_shuffled early p)
      where
        at_shuffled : (f : Row → GroupedRow) {rows others : List Row} → Shuffled rows others
            → Shuffled (at_group n c (map f rows)) (at_group n c (map f others))
        at_shuffled f s = mapped (λ (row : GroupedRow). argument row.arguments n)
            (sieved (λ (row : GroupedRow). same (list c) (list row.criteria)) (mapped f s))

    values_same : (rest : AggregateTrees) (n : ℕ)
        → ((ms : List GroupedRow) (j : ℕ) → argument (states ms) (n + j)
        ≡ argument (aggregate_values (functions_by state_of rest) n ms) j)
        → (c : List Datum) → aggregate_values (functions_by joined_of rest) n (rows_of_group c
        (map late came))
        ≡ aggregate_values (functions_by aggregate_of rest) n (rows_of_group c (map early rows))
    values_same no_aggregates n is c = refl
    values_same (aggregate_then x name e rest) n is c =
        ap (λ v. v ∷ aggregate_values (functions_by joined_of rest) (n + 1) (rows_of_group c (map late came)))
        (value_same n name (λ ms. subst (λ k. argument (states ms) k
        ≡ state_of name (map (λ (row : GroupedRow). argument row.arguments n) ms)) (omega arith) (is ms 0)) c)
        ∙ ap (λ vs. aggregate_of name (at_group n c (map early rows)) ∷ vs)
        (values_same rest (n + 1) (λ ms j. subst (λ k. argument (states ms) k
        ≡ argument (aggregate_values (functions_by state_of rest) (n + 1) ms) j) (omega arith) (is ms
        (suc j))) c)

    groups_same : (zs : List Ident) → ((x : Ident) (ys : List Ident) → zs ≡ x ∷ ys
        → Alike (map key (map late came)) (map key (map early rows)))
        → groups zs (map late came) ≡ groups zs (map early rows)
    groups_same [] f = refl
    groups_same (x ∷ ys) f = ap (map elements) (distinct_alike _ _ (f x ys refl))

    same_groups : groups xs (map late came) ≡ groups xs (map early rows)
    same_groups = groups_same xs (λ x ys e t. sym (same_any (same t) (mapped key (mapped late q)))
        ∙ keys_alike x ys e parts handed h t ∙ same_any (same t) (mapped key (mapped early p)))

    rows_same : (start : Row) (c : List Datum)
        → group_row xs (aggregate_vars gs) (functions_by joined_of gs) start (map late came) c
        ≡ group_row xs (aggregate_vars gs) (functions_by aggregate_of gs) start (map early rows) c
    rows_same start c = ap (λ vs. bind_all (aggregate_vars gs) vs (bind_all xs c start)) (values_same gs 0
        (λ ms j. ap (argument (states ms)) (omega arith)) c)

all_zip : {A B : Type 0} (R S : A → B → Type 0) → ((a : A) (b : B) → R a b → S a b)
    → (xs : List A) (ys : List B)
    → AllZip R xs ys → AllZip S xs ys
all_zip R S f [] [] h = tt
all_zip R S f [] (y ∷ ys) h = absurd h
all_zip R S f (x ∷ xs) [] h = absurd h
all_zip R S f (x ∷ xs) (y ∷ ys) h = (f x y h.0, all_zip R S f xs ys h.1)

pub two_stages : TwoStagesAreOne
two_stages xs es gs d fits parts handed h rows p states q start out =
    let same = rows_same xs es gs d fits parts handed h rows states (shuffled _ _ p) (shuffled _ _ q) start in
    let alike = same_groups xs es gs d fits parts handed h rows states (shuffled _ _ p) (shuffled _ _ q) in (
      λ g. all_zip _ _ (λ c row e. e ∙ same c) _ out (subst (λ cs. AllZip (λ c row. row
          ≡ group_row xs (aggregate_vars gs) (functions_by joined_of gs) start (map
          (grouped_row_at Final xs es gs no_into) states) c) cs out) alike g),
      λ g. all_zip _ _ (λ c row e. e ∙ sym (same c)) _ out (subst (λ cs. AllZip (λ c row. row
          ≡ group_row xs (aggregate_vars gs) (functions_by aggregate_of gs) start (map
          (grouped_row_at Whole xs es gs no_into) rows) c) cs out) (sym alike) g),
    )
