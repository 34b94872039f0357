-- Which status comes, and what the engine's list gained.
use Rattle.std.proofs.Common.{arith, ◌≡◌, ◌≢◌, ◌≤◌, ℕ, ◌⊎◌, ◌↔◌, inl, inr, List, [], Option, Some, None, Err, refl, sym, ap, ◌∙◌, subst}
use Rattle.std.specs.Prelude.{⊤, IsSome, IsSomeAnd, IfSome, MatchOption, Result, codes}
use Rattle.aql_script.specs.Script.{IsScript, HasFault}
use Rattle.aql_script.specs.declared.loading.Loaded.{Loaded}
use Rattle.aql_script.specs.declared.faults.LoadFault.{LoadFault}
use Rattle.aql_script.specs.declared.faults.LoadFault.TheVariants as load
use Rattle.aql_tree.specs.Tree.{QueryTree}
use Rattle.aql_script.specs.Texts.{fault_text}
use Rattle.aql_top.specs.Texts.{query_fault_text}
use Rattle.aql_top.specs.declared.query_faults.QueryFault.{QueryFault}
use Rattle.aql_top.specs.declared.query_faults.QueryFault.TheVariants as query
use Rattle.aql_top.specs.Reading.{Refuses}
use Rattle.aql_top.proofs.Once.{only_query, only_fault}
use Rattle.aql_top.proofs.made.Accepted.{made_accepted}
use Rattle.aql_options.specs.Words.{Words as WordsOf}
use Rattle.aql_options.specs.declared.settings.Settings.{Settings}
use Rattle.aql_options.specs.laws.Bounds.{same_generate, generate_bounds}
use Rattle.aql_top.specs.Forms.{Gives, TakesWords, HasQuery, Accepts, HasQueryFault, made_or_left, script_bytes}
use Rattle.aql_top.specs.Reasons.{fault_status, query_status, Deserves, IsTextOf, as_line}
use Rattle.aql_top.specs.Faults.{Leads, LeadsBy, status_of, line_of, IsMade}
use Rattle.aql_top.specs.declared.faults.RunFault.{RunFault}
use Rattle.aql_top.specs.declared.faults.RunFault.TheVariants.{Words, Read, Script, Query, Write, Memory}

-- ---- bytes are one script, or have one fault

no_fault : (bytes : List ℕ) (l : Loaded) (e : LoadFault) → IsScript bytes l → HasFault bytes e → ⊥
no_fault bytes l e s f = let same = sym s ∙ f in absurd (cc)

one_fault : (bytes : List ℕ) (e f : LoadFault) → HasFault bytes e → HasFault bytes f → e ≡ f
one_fault bytes e f p q = let same = sym p ∙ q in cc

one_script : (bytes : List ℕ) (l m : Loaded) → IsScript bytes l → IsScript bytes m → l ≡ m
one_script bytes l m p q = let same = sym p ∙ q in cc

-- ---- a query is refused for one cause, or for none

no_refusal : (l : Loaded) (f : QueryFault) → HasQuery l → Refuses l.catalog l.query f → ⊥
no_refusal l f r refused =
    let memory : f ≡ query.Memory =
    only_query {A = ℕ} l.catalog l.query (Err f) (inr refused) r.query r.is_written r.no_fault in
    subst (λ e. Refuses l.catalog l.query e) memory refused

same_fault : (e f : QueryFault) (r s m : Result QueryTree QueryFault) → r ≡ Err e → s ≡ Err f
    → m ≡ Err query.Memory → (r ≡ s) ⊎ (r ≡ m) → (e ≡ f) ⊎ (e ≡ query.Memory)
same_fault e f r s m p q k (inl h) = let same : e ≡ f = cc in inl same
same_fault e f r s m p q k (inr h) = let memory : e ≡ query.Memory = cc in inr memory

one_refusal : (l : Loaded) (e f : QueryFault) → Refuses l.catalog l.query e → Refuses l.catalog l.query f
    → e ≡ f
one_refusal l e f p q =
    settled (same_fault e f _ _ _ refl refl refl
    (only_fault {A = QueryTree} (λ t. t) (λ t. []) l.catalog l.query (Err e) tt (inr p) f q))
  where
    settled : (e ≡ f) ⊎ (e ≡ query.Memory) → e ≡ f
    settled (inl same) = same
    settled (inr memory) = absurd (subst (λ x. Refuses l.catalog l.query x) memory p)

no_query_fault : (bytes : List ℕ) (f : QueryFault) → Accepts bytes → HasQueryFault bytes f → ⊥
no_query_fault bytes f a h =
    let same = one_script bytes a.0 h.0 a.1.0 h.1.0 in
    no_refusal h.0 f (subst HasQuery same a.1.1) h.1.1

one_query_fault : (bytes : List ℕ) (e f : QueryFault) → HasQueryFault bytes e → HasQueryFault bytes f → e ≡ f
one_query_fault bytes e f g h =
    let same = one_script bytes g.0 h.0 g.1.0 h.1.0 in
    one_refusal h.0 e f (subst (λ l. Refuses l.catalog l.query e) same g.1.1) h.1.1

-- ---- what bytes deserve is one status, and nothing where a query has no fault

one_status : (bytes : List ℕ) (s s' : ℕ) (t t' : List ℕ) → Deserves (Some bytes) s t
    → Deserves (Some bytes) s' t' → s ≡ s'
one_status bytes s s' t t' (Deserves.bad_script e o p) (Deserves.bad_script f u q) =
    ap fault_status (one_fault bytes e f p q)
one_status bytes s s' t t' (Deserves.bad_script e o p) (Deserves.bad_query f q) =
    absurd (no_fault bytes q.0 e q.1.0 p)
one_status bytes s s' t t' (Deserves.bad_query e p) (Deserves.bad_script f o q) =
    absurd (no_fault bytes p.0 f p.1.0 q)
one_status bytes s s' t t' (Deserves.bad_query e p) (Deserves.bad_query f q) =
    ap query_status (one_query_fault bytes e f p q)

none_deserved : (bytes : List ℕ) (s : ℕ) (t : List ℕ) → Accepts bytes → Deserves (Some bytes) s t → ⊥
none_deserved bytes s t a (Deserves.bad_script e o p) = no_fault bytes a.0 e a.1.0 p
none_deserved bytes s t a (Deserves.bad_query e p) = no_query_fault bytes e a p

-- ---- a fault is told as itself, or as want of memory where its line is made

abbrev pub IsToldAs : RunFault → RunFault → Type 0
IsToldAs fault as_told = (as_told ≡ fault) ⊎ ((as_told ≡ Memory) × IsMade fault)

pub told_leads : (e t : RunFault) (words : List (List ℕ)) (left : Option (List ℕ)) → IsToldAs e t
    → Leads e words left → Leads t words left
told_leads e t words left (inl same) h = subst (λ x. Leads x words left) (sym same) h
told_leads e t words left (inr made) h = subst (λ x. Leads x words left) (sym made.0) tt

-- ---- which status comes of what leads to a fault

-- what the bytes of the script deserve, or what they do not decide
abbrev pub Deserved : List (List ℕ) → Option (List ℕ) → ℕ → List ℕ → Type 0
Deserved words left status text =
    Gives words (λ settings. Deserves (script_bytes settings left) status text) ⊎ IsTextOf status text

module _ (words : List (List ℕ)) (left : Option (List ℕ)) where
  pub deserved : (e : RunFault) → Leads e words left
      → (text : List ℕ) × Deserved words left (status_of e) text × (as_line text ≡ line_of e)
  deserved Words h = (codes "words", inr IsTextOf.bad_words, refl)
  deserved Read h = (codes "read fault", inr IsTextOf.read_fault, refl)
  deserved (Script fault) h =
      (fault_text fault, inl (h.0, h.1, Deserves.bad_script fault h.2.0 h.2.1), refl)
  deserved (Query fault) h = (query_fault_text fault, inl (h.0, h.1, Deserves.bad_query fault h.2), refl)
  deserved Write h = (codes "write fault", inr IsTextOf.write_fault, refl)
  deserved Memory h = (codes "out of memory", inr IsTextOf.no_memory, refl)

refuses : (s : ℕ) (t : List ℕ) (e : RunFault) (bytes : List ℕ) → LeadsBy e (Some bytes)
    → Deserves (Some bytes) s t → (status_of e ≡ s) ⊎ ((status_of e ≡ 6) ⊎ (status_of e ≡ 8))
refuses s t Words bytes h d = absurd h
refuses s t Read bytes h d = inr (inl refl)
refuses s t (Script fault) bytes h d =
    inl (one_status bytes _ s _ t (Deserves.bad_script fault h.0 h.1) d)
refuses s t (Query fault) bytes h d = inl (one_status bytes _ s _ t (Deserves.bad_query fault h) d)
refuses s t Write bytes h d = absurd (none_deserved bytes s t h d)
refuses s t Memory bytes h d = inr (inr refl)

refuses_input : (s : ℕ) (t : List ℕ) (e : RunFault) (input : Option (List ℕ)) → LeadsBy e input
    → IsSome input → Deserves input s t → (status_of e ≡ s) ⊎ ((status_of e ≡ 6) ⊎ (status_of e ≡ 8))
refuses_input s t e None h i d = absurd (cc)
refuses_input s t e (Some bytes) h i d = refuses s t e bytes h d

abbrev pub Completes : ℕ → Type 0
Completes n = (n ≡ 0) ⊎ ((n ≡ 6) ⊎ ((n ≡ 7) ⊎ (n ≡ 8)))

completes : (e : RunFault) (bytes : List ℕ) → LeadsBy e (Some bytes) → Accepts bytes → Completes (status_of e)
completes Words bytes h a = absurd h
completes Read bytes h a = inr (inl refl)
completes (Script fault) bytes h a = absurd (none_deserved bytes _ _ a (Deserves.bad_script fault h.0 h.1))
completes (Query fault) bytes h a = absurd (none_deserved bytes _ _ a (Deserves.bad_query fault h))
completes Write bytes h a = inr (inr (inl refl))
completes Memory bytes h a = inr (inr (inr refl))

-- where no read fails
pub unless_read : (n : ℕ) → Completes n → (n ≡ 6 → ⊥) → (n ≡ 0) ⊎ ((n ≡ 7) ⊎ (n ≡ 8))
unless_read n (inl zero) never = inl zero
unless_read n (inr (inl six)) never = absurd (never six)
unless_read n (inr (inr late)) never = inr late

completes_input : (e : RunFault) (input : Option (List ℕ)) → LeadsBy e input → IsSomeAnd input Accepts
    → Completes (status_of e)
completes_input e None h a = absurd a
completes_input e (Some bytes) h a = completes e bytes h a

module _ (words : List (List ℕ)) (settings : Settings) (w : WordsOf words settings) (left : Option (List ℕ)) where
  -- all settings of the words have the same script
  same_bytes : (P : Option (List ℕ) → Type 0) (s : Settings) → WordsOf words s → P (script_bytes s left)
      → P (script_bytes settings left)
  same_bytes P s v h = subst (λ n. P (made_or_left n left)) (same_generate words s settings v w) h

  by_words : {T : Type 0} (e : RunFault) → Leads e words left → (e ≡ Words → T) → (e ≡ Memory → T)
      → (LeadsBy e (script_bytes settings left) → T) → T
  by_words Words h a b f = a refl
  by_words Memory h a b f = b refl
  by_words Read h a b f = f tt
  by_words (Script fault) h a b f = f (same_bytes (LeadsBy (Script fault)) h.0 h.1 h.2)
  by_words (Query fault) h a b f = f (same_bytes (LeadsBy (Query fault)) h.0 h.1 h.2)
  by_words Write h a b f = f (same_bytes (LeadsBy Write) h.0 h.1 h.2)

  no_words : (e : RunFault) → Leads e words left → e ≡ Words → ⊥
  no_words e h is = (subst (λ x. Leads x words left) is h) (settings, w, tt)

  pub refused : (s : ℕ) (t : List ℕ) (e : RunFault) → Leads e words left
      → IsSome (script_bytes settings left) → Deserves (script_bytes settings left) s t
      → (status_of e ≡ s) ⊎ ((status_of e ≡ 6) ⊎ (status_of e ≡ 8))
  refused s t e h i d =
      by_words e h (λ is. absurd (no_words e h is)) (λ is. inr (inr (ap status_of is)))
      (λ by. refuses_input s t e (script_bytes settings left) by i d)

  pub complete : (e : RunFault) → Leads e words left → IsSomeAnd (script_bytes settings left) Accepts
      → Completes (status_of e)
  complete e h a =
      by_words e h (λ is. absurd (no_words e h is)) (λ is. inr (inr (inr (ap status_of is))))
      (λ by. completes_input e (script_bytes settings left) by a)

  -- a script that is made is accepted
  pub accepts_made : (n : ℕ) → settings.generate ≡ Some n → IsSomeAnd (script_bytes settings left) Accepts
  accepts_made n is =
      let bounds = subst (λ m. MatchOption m ⊤ (λ k. (1 ≤ k) × (k ≤ 100000))) is
      (generate_bounds words settings w) in
      subst (λ m. IsSomeAnd (made_or_left m left) Accepts) (sym is) (made_accepted n bounds.0 bounds.1)

  -- where the text came, nothing is deserved
  pub printed_deserves : (s : ℕ) (t : List ℕ)
      → Gives words (λ given. IfSome (script_bytes given left) Accepts) → IsSome (script_bytes settings left)
      → Deserves (script_bytes settings left) s t → ⊥
  printed_deserves s t a i d =
      none_from (script_bytes settings left) s t (same_bytes (λ input. IfSome input Accepts) a.0 a.1 a.2) i d
    where
      none_from : (input : Option (List ℕ)) (s : ℕ) (t : List ℕ) → IfSome input Accepts → IsSome input
          → Deserves input s t → ⊥
      none_from None s t a i d = absurd (cc)
      none_from (Some bytes) s t a i d = none_deserved bytes s t a d

-- ---- which words are refused

load_not_2 : (e : LoadFault) → fault_status e ≡ 2 → ⊥
load_not_2 load.Read h = omega (arith, h)
load_not_2 load.Memory h = omega (arith, h)
load_not_2 (load.Line n kind) h = omega (arith, h)
load_not_2 (load.Limit kind) h = omega (arith, h)

query_not_2 : (f : QueryFault) → query_status f ≡ 2 → ⊥
query_not_2 query.TooLong h = omega (arith, h)
query_not_2 (query.Lexical place kind) h = omega (arith, h)
query_not_2 query.TooDeep h = omega (arith, h)
query_not_2 query.TooManyClauses h = omega (arith, h)
query_not_2 query.NotInGrammar h = omega (arith, h)
query_not_2 query.TraversalTooDeep h = omega (arith, h)
query_not_2 (query.Scope fault) h = omega (arith, h)
query_not_2 query.Memory h = omega (arith, h)

module _ (words : List (List ℕ)) where
  abbrev pub IsOfWords : ℕ → Type 0
  IsOfWords n = (n ≡ 8) ⊎ ((n ≡ 2) ↔ (TakesWords words → ⊥))

  taken : (n : ℕ) → (n ≡ 2 → ⊥) → TakesWords words → IsOfWords n
  taken n other given = inr (λ h. absurd (other h), λ no. absurd (no given))

  pub printed_words : {P : Settings → Type 0} → Gives words P → IsOfWords 0
  printed_words g = taken 0 (λ h. omega (arith, h)) (g.0, g.1, tt)

  pub fault_words : (e : RunFault) (left : Option (List ℕ)) → Leads e words left → IsOfWords (status_of e)
  fault_words Words left h = inr (λ e. h, λ no. refl)
  fault_words Memory left h = inl refl
  fault_words Read left h = taken 6 (λ e. omega (arith, e)) (h.0, h.1, tt)
  fault_words (Script fault) left h = taken (fault_status fault) (load_not_2 fault) (h.0, h.1, tt)
  fault_words (Query fault) left h = taken (query_status fault) (query_not_2 fault) (h.0, h.1, tt)
  fault_words Write left h = taken 7 (λ e. omega (arith, e)) (h.0, h.1, tt)

-- ---- what holds of a fault holds of the status that is told

load_not_0 : (e : LoadFault) → fault_status e ≡ 0 → ⊥
load_not_0 load.Read h = omega (arith, h)
load_not_0 load.Memory h = omega (arith, h)
load_not_0 (load.Line n kind) h = omega (arith, h)
load_not_0 (load.Limit kind) h = omega (arith, h)

query_not_0 : (f : QueryFault) → query_status f ≡ 0 → ⊥
query_not_0 query.TooLong h = omega (arith, h)
query_not_0 (query.Lexical place kind) h = omega (arith, h)
query_not_0 query.TooDeep h = omega (arith, h)
query_not_0 query.TooManyClauses h = omega (arith, h)
query_not_0 query.NotInGrammar h = omega (arith, h)
query_not_0 query.TraversalTooDeep h = omega (arith, h)
query_not_0 (query.Scope fault) h = omega (arith, h)
query_not_0 query.Memory h = omega (arith, h)

not_0 : (e : RunFault) → status_of e ≡ 0 → ⊥
not_0 Words h = omega (arith, h)
not_0 Read h = omega (arith, h)
not_0 (Script fault) h = load_not_0 fault h
not_0 (Query fault) h = query_not_0 fault h
not_0 Write h = omega (arith, h)
not_0 Memory h = omega (arith, h)

-- want of memory alone is told for another fault
told_status : (e t : RunFault) → IsToldAs e t → (status_of t ≡ 8 → ⊥) → status_of e ≡ status_of t
told_status e t (inl same) n = ap status_of (sym same)
told_status e t (inr made) n = absurd (n (ap status_of made.0))

module _ (e t : RunFault) (told : IsToldAs e t) (status : ℕ) (is : status ≡ status_of t) where
  pub never_0 : status ≡ 0 → ⊥
  never_0 h = not_0 t (sym is ∙ h)

  -- another status than that of want of memory is the fault's own
  pub of_fault : {P : Type 0} (n : ℕ) → (n ≡ 8 → ⊥) → (status_of e ≡ n → P) → status ≡ n → P
  of_fault n other f h = f (told_status e t told (λ k. other (sym h ∙ is ∙ k)) ∙ (sym is ∙ h))

  pub unread : {P G : Type 0} → (status_of e ≡ 2 → P) → (G → P) → (status ≡ 2) ⊎ G → P
  unread f g (inl two) = of_fault 2 (λ k. omega (arith, k)) f two
  unread f g (inr made) = g made

  pub idle : {P : Type 0} → (status_of e ≢ 7 → status_of e ≢ 8 → P) → status ≢ 7 → status ≢ 8 → P
  idle same seven eight =
      let e_is = told_status e t told (λ k. eight (is ∙ k)) in
      same (λ k. seven (is ∙ (sym e_is ∙ k))) (λ k. eight (is ∙ (sym e_is ∙ k)))
