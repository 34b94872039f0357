-- The lines of a plan's text, one after another.
use Rattle.std.proofs.Common.{◌≡◌, ◌∙◌, ℕ, ◌+◌, ◌*◌, ◌≤◌, List, [], ◌∷◌, ◌++◌, length, replicate, arith, ap, sym, refl, append_assoc, length-append}
use Rattle.std.proofs.lemmas.List.{append-nil, replicate_more}
use Rattle.std.proofs.lemmas.Grind.{flat_map-append}
use Rattle.std.specs.Prelude.{codes, decimal}
use Rattle.aql_plan.specs.declared.facts.Facts.{Facts}
use Rattle.aql_plan.specs.declared.plan.Node.{Node}
use Rattle.aql_plan.specs.declared.plan.Node.TheVariants.{Remote}
use Rattle.aql_plan.specs.View.{node_tree}
use Rattle.aql_show.specs.PlanText.{Line, numbered, ended, body_lines}

numbered_append : (n : ℕ) (a b : List Line) → numbered n (a ++ b) ≡ numbered n a ++ numbered (n + length a) b
numbered_append n [] b = let e : n ≡ n + 0 = omega arith in ap (λ k. numbered k b) e
numbered_append n (l ∷ a) b =
    let e : (n + 1) + length a ≡ n + length (l ∷ a) = omega arith in
    ap (λ lines. (replicate (2 * l.0) 32 ++ decimal n ++ codes " " ++ l.1) ∷ lines)
    (numbered_append (n + 1) a b ∙ ap (λ k. numbered (n + 1) a ++ numbered k b) e)

pub ended_append : (a b : List (List ℕ)) → ended (a ++ b) ≡ ended a ++ ended b
ended_append a b = flat_map-append (λ line. line ++ 10 ∷ []) a b

ended_numbered : (n : ℕ) (a b : List Line)
    → ended (numbered n (a ++ b)) ≡ ended (numbered n a) ++ ended (numbered (n + length a) b)
ended_numbered n a b =
    ap ended (numbered_append n a b) ∙ ended_append (numbered n a) (numbered (n + length a) b)

-- one more line after those of the input
pub line_written : (n m level : ℕ) (lines : List Line) (text out o1 o2 o3 o4 : List ℕ)
    → m ≡ n + length lines
    → o1 ≡ out ++ ended (numbered n lines)
    → o2 ≡ o1 ++ replicate (2 * level) 32 ++ decimal m ++ codes " "
    → o3 ≡ o2 ++ text
    → o4 ≡ o3 ++ 10 ∷ []
    → o4 ≡ out ++ ended (numbered n (lines ++ (level, text) ∷ []))
line_written n m level lines text out o1 o2 o3 o4 hm h1 h2 h3 h4 =
    rw (h4, h3, h2, h1, hm, ended_numbered n lines ((level, text) ∷ [])) (simp (append_assoc, append-nil))

-- the lines of a body after its Subquery's
pub body_written : (n m : ℕ) (l : Line) (lines body : List Line) (out o4 o5 : List ℕ)
    → m ≡ n + length (lines ++ l ∷ [])
    → o4 ≡ out ++ ended (numbered n (lines ++ l ∷ []))
    → o5 ≡ o4 ++ ended (numbered m body)
    → o5 ≡ out ++ ended (numbered n (lines ++ l ∷ body))
body_written n m l lines body out o4 o5 hm h4 h5 =
    h5 ∙ ap (λ o. o ++ ended (numbered m body)) h4
    ∙ append_assoc out (ended (numbered n (lines ++ l ∷ []))) (ended (numbered m body))
    ∙ ap (λ k. out ++ (ended (numbered n (lines ++ l ∷ [])) ++ ended (numbered k body))) hm
    ∙ ap (λ t. out ++ t) (sym (ended_numbered n (lines ++ l ∷ []) body))
    ∙ ap (λ ls. out ++ ended (numbered n ls)) (append_assoc lines (l ∷ []) body)

pub next_number : (n m : ℕ) (l : Line) (lines : List Line) → m ≡ n + length lines
    → m + 1 ≡ n + length (lines ++ l ∷ [])
next_number n m l lines h =
    let all : length (lines ++ l ∷ []) ≡ length lines + 1 = length-append lines (l ∷ []) in
    omega arith

-- a node of the program other than a subquery has no body
pub no_body : (names : List (List ℕ)) (facts : Facts) (level : ℕ) (node : Node)
    → body_lines names facts level (node_tree node) ≡ []
no_body names facts level Remote = refl
no_body names facts level _ = refl

-- two spaces more
pub indented : (n : ℕ) (out : List ℕ)
    → (out ++ replicate (2 * n) 32) ++ codes "  " ≡ out ++ replicate (2 * (n + 1)) 32
indented n out =
    let e : 2 * n + 1 + 1 ≡ 2 * (n + 1) = omega arith in
    append_assoc out (replicate (2 * n) 32) (codes "  ")
    ∙ ap (λ t. out ++ t) (sym (append_assoc (replicate (2 * n) 32) (32 ∷ []) (32 ∷ []))
    ∙ ap (λ t. t ++ 32 ∷ []) (replicate_more (2 * n) 32) ∙ replicate_more (2 * n + 1) 32
    ∙ ap (λ k. replicate k 32) e)

-- each line takes a byte at least
pub room_left : (next : ℕ) (out new a b : List ℕ) → next ≤ length out → new ≡ out ++ a ++ b ++ codes " "
    → next + 1 ≤ length new
room_left next out new a b h e =
    let all : length new ≡ length out + length a + length b + 1 = simp length-append at (ap length e) in
    omega arith

-- the whole text
pub whole_written : (rules cost : List ℕ) (lines : List (List ℕ)) (o1 o2 o3 o4 o5 o6 : List ℕ)
    → o1 ≡ [] ++ codes "plan" ++ 10 ∷ []
    → o2 ≡ o1 ++ ended lines
    → o3 ≡ o2 ++ rules
    → o4 ≡ o3 ++ 10 ∷ codes "cost "
    → o5 ≡ o4 ++ cost
    → o6 ≡ o5 ++ 10 ∷ []
    → o6 ≡ ended (codes "plan" ∷ lines ++ rules ∷ (codes "cost " ++ cost) ∷ [])
whole_written rules cost lines o1 o2 o3 o4 o5 o6 h1 h2 h3 h4 h5 h6 =
    rw (h6, h5, h4, h3, h2, h1, ended_append lines (rules ∷ (codes "cost " ++ cost) ∷ []))
    (simp (append_assoc, append-nil))
