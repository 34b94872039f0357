-- What is used of the rows of a node's input is there, or set by another part of the plan.
use Rattle.std.proofs.Common.{◌≡◌, List, [], ◌∷◌, ◌++◌, true, refl, sym, subst}
use Rattle.std.specs.Prelude.{option_to_list}
use Rattle.aql_tree.specs.declared.syntax.Ident.{Ident}
use Rattle.aql_tree.specs.Tree.{ExprTrees, AggregateTrees, IntoTree}
use Rattle.aql_meaning.specs.Uses.{Uses, uses, all_uses, maybe_uses}
use Rattle.aql_meaning.specs.declared.grouping.Stage.TheVariants as stage
use Rattle.aql_plan.specs.declared.facts.Facts.{Facts}
use Rattle.aql_plan.specs.Plan.{Plan, Singleton, Over, Node, EnumerateCollection, Index, Traversal, Subquery, Collect, Return}
use Rattle.aql_plan.specs.Needs.{sets, last_uses, own_uses, under, needs, result_uses}
use Rattle.aql_plan.specs.Variables.{filter_uses, input_uses, vars_of, are_among, FindsAll, FindsInside, vars_set, set_once}
use Rattle.aql_plan.specs.Shapes.{Shape, Result, Shaped, plain_rows, remote, lowest, other_reading, passing, partial, joining, finishing, returning}
use Rattle.aql_plan_laws.specs.laws.ShapesKept.{under_top, body_shaped}
use Rattle.aql_rewrite.specs.laws.Among.{has_front, Within, within_front, within_back, within_join, within_self, among_within, among_join, among_split}

-- ---- a node by itself

-- what a node uses is in its input's rows or set by it
own_found : (n : Node) (xs : List Ident) → are_among (input_uses n) xs ≡ true
    → are_among (filter_uses n) (sets n ++ xs) ≡ true → are_among (own_uses n) (sets n ++ xs) ≡ true
own_found (EnumerateCollection x) xs h k = k
own_found (Index x index equal last ordered) xs h k =
    let l = among_split (all_uses equal) (last_uses last) xs h in
    let w : Within xs (x.var ∷ xs) = within_back xs (x.var ∷ []) xs (within_self xs) in
    among_join (all_uses equal) (last_uses last ++ maybe_uses x.filter) (x.var ∷ xs)
    (among_within (all_uses equal) xs (x.var ∷ xs) w l.0)
    (among_join (last_uses last) (maybe_uses x.filter) (x.var ∷ xs)
    (among_within (last_uses last) xs (x.var ∷ xs) w l.1) k)
own_found (Traversal w e colls prune keep) xs h k =
    let ys = w.vertex ∷ (option_to_list w.edge ++ option_to_list w.path) in
    among_join (uses e) (maybe_uses prune ++ maybe_uses keep) (ys ++ xs)
    (among_within (uses e) xs (ys ++ xs) (within_back xs ys xs (within_self xs)) h) k
own_found n xs h k =
    among_within (own_uses n) xs (sets n ++ xs) (within_back xs (sets n) xs (within_self xs)) h

-- ---- lists of variables: those that a node sets, those away, and the others

moved : (away xs vs : List Ident) → Within (away ++ (xs ++ vs)) ((xs ++ away) ++ vs)
moved away xs vs = within_join away (xs ++ vs) ((xs ++ away) ++ vs)
    (within_front away (xs ++ away) vs (within_back away xs away (within_self away)))
    (within_join xs vs ((xs ++ away) ++ vs)
    (within_front xs (xs ++ away) vs (within_front xs xs away (within_self xs)))
    (within_back vs (xs ++ away) vs (within_self vs)))

near : (away xs vs : List Ident) → Within (xs ++ vs) ((xs ++ away) ++ vs)
near away xs vs = within_join xs vs ((xs ++ away) ++ vs)
    (within_front xs (xs ++ away) vs (within_front xs xs away (within_self xs)))
    (within_back vs (xs ++ away) vs (within_self vs))

ordinary : (own us : Uses) (away xs vs : List Ident) → are_among own (xs ++ vs) ≡ true
    → are_among us (away ++ (xs ++ vs)) ≡ true → are_among (own ++ us) ((xs ++ away) ++ vs) ≡ true
ordinary own us away xs vs h k = among_join own us ((xs ++ away) ++ vs)
    (among_within own (xs ++ vs) ((xs ++ away) ++ vs) (near away xs vs) h)
    (among_within us (away ++ (xs ++ vs)) ((xs ++ away) ++ vs) (moved away xs vs) k)

alone : (own : Uses) (ys vs : List Ident) → are_among own vs ≡ true → are_among own (ys ++ vs) ≡ true
alone own ys vs h = among_within own vs (ys ++ vs) (within_back vs ys vs (within_self vs)) h

-- set by the node, set below, away, or outer
mixed : (xs ys away outer : List Ident)
    → Within ((ys ++ (xs ++ away)) ++ outer) (((xs ++ ys) ++ away) ++ outer)
mixed xs ys away outer =
    let zs = ((xs ++ ys) ++ away) ++ outer in
    within_join (ys ++ (xs ++ away)) outer zs
    (within_front (ys ++ (xs ++ away)) ((xs ++ ys) ++ away) outer
    (within_join ys (xs ++ away) ((xs ++ ys) ++ away)
    (within_front ys (xs ++ ys) away (within_back ys xs ys (within_self ys)))
    (within_join xs away ((xs ++ ys) ++ away)
    (within_front xs (xs ++ ys) away (within_front xs xs ys (within_self xs)))
    (within_back away (xs ++ ys) away (within_self away)))))
    (within_back outer ((xs ++ ys) ++ away) outer (within_self outer))

handed_on : (xs ys away outer : List Ident) → Within (away ++ (xs ++ outer)) (((xs ++ ys) ++ away) ++ outer)
handed_on xs ys away outer =
    let zs = ((xs ++ ys) ++ away) ++ outer in
    within_join away (xs ++ outer) zs
    (within_front away ((xs ++ ys) ++ away) outer (within_back away (xs ++ ys) away (within_self away)))
    (within_join xs outer zs
    (within_front xs ((xs ++ ys) ++ away) outer
    (within_front xs (xs ++ ys) away (within_front xs xs ys (within_self xs))))
    (within_back outer ((xs ++ ys) ++ away) outer (within_self outer)))

-- ---- plans

-- a final Collect sets what its partial one sets
pub final_set : (facts : Facts) (s : Shape) (b : Plan) (xs : List Ident) (es : ExprTrees)
    (gs : AggregateTrees)
    (i : IntoTree)
    → Shaped facts (Over b (Collect xs es gs i stage.Final)) s
    → (others : List Ident) × (vars_set b ≡ sets (Collect xs es gs i stage.Final) ++ others)
final_set facts s b xs es gs i (finishing f (joining (remote j (partial {b = c} g h)))) = (vars_set c, refl)
final_set facts s b xs es gs i (plain_rows j f h) = absurd j
final_set facts s b xs es gs i (lowest j f h) = absurd j
final_set facts s b xs es gs i (other_reading j f h) = absurd j
final_set facts s b xs es gs i (passing j f h) = absurd j

pub results_found : (facts : Facts) (vs : List Ident) (s : Plan) → Shaped facts s Result
    → are_among result_uses ([] ++ vars_of vs s) ≡ true
results_found facts vs s (returning f h) = refl

-- the body of a node gives values
abbrev BodyShaped : Facts → Node → Type 0
BodyShaped facts (Subquery x s) = Shaped facts s Result
BodyShaped facts n = Unit {0}

pub has_body : (facts : Facts) (t : Shape) (b : Plan) (n : Node) → Shaped facts (Over b n) t
    → BodyShaped facts n
has_body facts t b (Subquery x s) h = body_shaped facts t b x s h
has_body facts t b n h = tt

-- of the rows of most nodes all that was there may be used
abbrev StillUsed : List Ident → Uses → Node → List Ident → Type 0
StillUsed away us (Collect xs es gs i s) vs = Unit {0}
StillUsed away us (Return distinct e) vs = Unit {0}
StillUsed away us n vs = are_among us (away ++ (sets n ++ vs)) ≡ true

mutual
  used_under : (facts : Facts) (away vs : List Ident) (us : Uses) (n : Node) → BodyShaped facts n
      → are_among (input_uses n) vs ≡ true → are_among (filter_uses n) (sets n ++ vs) ≡ true
      → FindsInside vs n → StillUsed away us n vs → are_among (under n us) ((set_once n ++ away) ++ vs) ≡ true
  used_under facts away vs us (Subquery x s) fit input own found h =
      let zs = ((x ∷ vars_set s) ++ away) ++ vs in
      let k = needs_found facts vs [] result_uses s Result fit found (results_found facts vs s fit) in
      among_join (needs s result_uses) us zs
      (among_within (needs s result_uses) ((vars_set s ++ []) ++ vs) zs
      (within_join (vars_set s ++ []) vs zs
      (within_join (vars_set s) [] zs
      (within_front (vars_set s) ((x ∷ vars_set s) ++ away) vs
      (within_front (vars_set s) (x ∷ vars_set s) away
      (within_back (vars_set s) (x ∷ []) (vars_set s) (within_self (vars_set s)))))
      (λ z e. has_front z [] zs e))
      (within_back vs ((x ∷ vars_set s) ++ away) vs (within_self vs))) k)
      (among_within us (away ++ (x ∷ vs)) zs
      (within_join away (x ∷ vs) zs
      (within_front away ((x ∷ vars_set s) ++ away) vs
      (within_back away (x ∷ vars_set s) away (within_self away)))
      (within_join (x ∷ []) vs zs
      (within_front (x ∷ []) ((x ∷ vars_set s) ++ away) vs
      (within_front (x ∷ []) (x ∷ vars_set s) away
      (within_front (x ∷ []) (x ∷ []) (vars_set s) (within_self (x ∷ [])))))
      (within_back vs ((x ∷ vars_set s) ++ away) vs (within_self vs)))) h)
  used_under facts away vs us (Collect xs es gs i s) fit input own found h =
      alone (own_uses (Collect xs es gs i s)) (set_once (Collect xs es gs i s) ++ away) vs input
  used_under facts away vs us (Return distinct e) fit input own found h = alone (uses e) ([] ++ away) vs input
  used_under facts away vs us n fit input own found h =
      ordinary (own_uses n) us away (sets n) vs (own_found n vs input own) h

  needs_found : (facts : Facts) (outer away : List Ident) (us : Uses) (p : Plan) (s : Shape)
      → Shaped facts p s
      → FindsAll outer p → are_among us (away ++ vars_of outer p) ≡ true
      → are_among (needs p us) ((vars_set p ++ away) ++ outer) ≡ true
  needs_found facts outer away us Singleton s shaped found h = h
  needs_found facts outer away us (Over b (Collect xs es gs i stage.Final)) s shaped found h =
      let n = Collect xs es gs i stage.Final in
      let a = under_top facts b n s shaped in
      let f = final_set facts s b xs es gs i shaped in
      let zs = (vars_set b ++ away) ++ outer in
      let k = needs_found facts outer away (under n us) b a.0 a.2 found.0
      (alone (own_uses n) away (vars_of outer b) found.1) in
      among_join (needs b (under n us)) us zs k
      (among_within us (away ++ (sets n ++ outer)) zs
      (within_join away (sets n ++ outer) zs
      (within_front away (vars_set b ++ away) outer (within_back away (vars_set b) away (within_self away)))
      (within_join (sets n) outer zs
      (within_front (sets n) (vars_set b ++ away) outer
      (within_front (sets n) (vars_set b) away
      (subst (λ (ys : List Ident). Within (sets n) ys) (sym f.1)
      (within_front (sets n) (sets n) f.0 (within_self (sets n))))))
      (within_back outer (vars_set b ++ away) outer (within_self outer)))) h)
  needs_found facts outer away us (Over b (Collect xs es gs i c)) s shaped found h =
      let n = Collect xs es gs i c in
      let a = under_top facts b n s shaped in
      let k = needs_found facts outer (set_once n ++ away) (under n us) b a.0 a.2 found.0
      (alone (own_uses n) (set_once n ++ away) (vars_of outer b) found.1) in
      among_join (needs b (under n us)) us (((set_once n ++ vars_set b) ++ away) ++ outer)
      (among_within (needs b (under n us)) ((vars_set b ++ (set_once n ++ away)) ++ outer)
      (((set_once n ++ vars_set b) ++ away) ++ outer) (mixed (set_once n) (vars_set b) away outer) k)
      (among_within us (away ++ (sets n ++ outer))
      (((sets n ++ vars_set b) ++ away) ++ outer)
      (handed_on (sets n) (vars_set b) away outer) h)
  needs_found facts outer away us (Over b (Return distinct e)) s shaped found h =
      let n = Return distinct e in
      let a = under_top facts b n s shaped in
      let k = needs_found facts outer (set_once n ++ away) (under n us) b a.0 a.2 found.0
      (alone (uses e) ([] ++ away) (vars_of outer b) found.1) in
      among_within (needs b (under n us)) ((vars_set b ++ (set_once n ++ away)) ++ outer)
      (((set_once n ++ vars_set b) ++ away) ++ outer) (mixed (set_once n) (vars_set b) away outer) k
  needs_found facts outer away us (Over b n) s shaped found h =
      let a = under_top facts b n s shaped in
      let k = needs_found facts outer (set_once n ++ away) (under n us) b a.0 a.2 found.0
      (used_under facts away (vars_of outer b) us n (has_body facts s b n shaped) found.1 found.2 found.3 h)
      in
      among_within (needs b (under n us)) ((vars_set b ++ (set_once n ++ away)) ++ outer)
      (((set_once n ++ vars_set b) ++ away) ++ outer) (mixed (set_once n) (vars_set b) away outer) k

pub used_below : (facts : Facts) (outer away : List Ident) (us : Uses) (n : Node) (b : Plan)
    → BodyShaped facts n
    → FindsAll outer (Over b n) → are_among us (away ++ vars_of outer (Over b n)) ≡ true
    → are_among (under n us) ((set_once n ++ away) ++ vars_of outer b) ≡ true
used_below facts outer away us (Collect xs es gs i s) b fit found h =
    used_under facts away (vars_of outer b) us (Collect xs es gs i s) fit found.1 found.2 found.3 tt
used_below facts outer away us (Return distinct e) b fit found h =
    used_under facts away (vars_of outer b) us (Return distinct e) fit found.1 found.2 found.3 tt
used_below facts outer away us n b fit found h =
    used_under facts away (vars_of outer b) us n fit found.1 found.2 found.3 h
