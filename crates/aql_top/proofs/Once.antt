-- A text has one query, or one cause of a refusal.
use Rattle.std.proofs.Common.{◌≡◌, ◌≢◌, ℕ, ◌<◌, ◌≤◌, List, Some, None, length, ◌⊎◌, inl, inr, refl, sym, ap, ◌∙◌, subst, arith}
use Rattle.std.specs.Prelude.{Result, Ok, Err, IfOk, IfErr, IsOkUnless}
use Rattle.aql_value.specs.Datum as value
use Rattle.aql_value.specs.Database.{Database}
use Rattle.aql_lex.specs.declared.kinds.Token.{Token}
use Rattle.aql_lex.specs.declared.faults.LexKind.{LexKind}
use Rattle.aql_lex.specs.Reading.{Lexes, Stops}
use Rattle.aql_lex.specs.laws.Readings.{one_reading}
use Rattle.aql_tree.specs.Tree.{QueryTree}
use Rattle.aql_parse.specs.Within.{traversals_within}
use Rattle.aql_grammar.specs.Kinds.{Tokens, kinds_of}
use Rattle.aql_grammar.specs.Tree.{Tree}
use Rattle.aql_grammar.specs.Limits.{nesting, marks}
use Rattle.aql_grammar.specs.laws.TreeLaws.{one_tree}
use Rattle.aql_grammar.specs.declared.faults.ParseFault.{ParseFault}
use Rattle.aql_grammar.specs.declared.faults.ParseFault.TheVariants as parse
use Rattle.aql_parse.specs.Parses.{Parses, WithinLimits, IsShallow}
use Rattle.aql_meaning.specs.Row.{empty_row}
use Rattle.aql_meaning.specs.Meaning.{IsAnswer}
use Rattle.aql_doc.specs.Held.{Held}
use Rattle.aql_scope.specs.declared.faults.ScopeFault.{ScopeFault}
use Rattle.aql_scope.specs.declared.faults.ScopeFault.TheVariants as scope
use Rattle.aql_scope.specs.Faults.{first_fault}
use Rattle.aql_top.specs.declared.query_faults.QueryFault.{QueryFault}
use Rattle.aql_top.specs.declared.query_faults.QueryFault.TheVariants.{TooLong, Lexical, TooDeep, TooManyClauses, NotInGrammar, TraversalTooDeep, Scope, Memory}
use Rattle.aql_top.specs.Causes.{of_parse}
use Rattle.aql_top.specs.Reading.{IsWritten, Misspells, Refuses, IsScoped}

-- ---- tokens

one_list : (text : List ℕ) (a b : List Token) → Lexes text a → Lexes text b → a ≡ b
one_list text a b l m = (one_reading (length text) text text a b None None refl l m).0

one_stop : (text : List ℕ) (p q : ℕ) (k l : LexKind) → Stops text p k → Stops text q l
    → Lexical p k ≡ Lexical q l
one_stop text p q k l s t =
    let e = (one_reading (length text) text text s.0 t.0 (Some (p, k)) (Some (q, l)) refl s.1 t.1).1 in
    let same : (p, k) ≡ (q, l) = cc in
    ap (λ (x : ℕ × LexKind). Lexical x.0 x.1) same

list_or_stop : (text : List ℕ) (a : List Token) (p : ℕ) (k : LexKind) → Lexes text a → Stops text p k
    → ⊥
list_or_stop text a p k l s =
    let e = (one_reading (length text) text text a s.0 None (Some (p, k)) refl l s.1).1 in absurd (cc)

-- ---- the grammar and its limits

within_or_refused : (ts : Tokens) (q : QueryTree) (b : ParseFault) → WithinLimits ts → Tree ts q
    → IsShallow q → b ≢ parse.Memory → Parses ts (Err b) → ⊥
within_or_refused ts q parse.TooDeep w t s n h = let a = w.0 in absurd (omega arith)
within_or_refused ts q parse.TooManyClauses w t s n h = let a = w.1 in let b = h.1 in absurd (omega arith)
within_or_refused ts q parse.NotInGrammar w t s n h = h.1 q t
within_or_refused ts q parse.TraversalTooDeep w t s n h =
    let e = ap (traversals_within 32) (one_tree ts h.1.0 q h.1.1.0 t) in let deep = h.1.1.1 in absurd (cc)
within_or_refused ts q parse.Memory w t s n h = n refl

within_or_limit : (ts : Tokens) (a b : ParseFault) → WithinLimits ts → 64 < nesting ts → a ≡ b
within_or_limit ts a b w h = let n = w.0 in absurd (omega arith)

few_or_many : (ts : Tokens) (a b : ParseFault) → WithinLimits ts → 256 < marks ts → a ≡ b
few_or_many ts a b w h = let n = w.1 in absurd (omega arith)

flat_or_deep : (ts : Tokens) (a b : ParseFault) → nesting ts ≤ 64 → 64 < nesting ts → a ≡ b
flat_or_deep ts a b w h = absurd (omega arith)

one_refusal : (ts : Tokens) (a b : ParseFault) → a ≢ parse.Memory → b ≢ parse.Memory
    → Parses ts (Err a) → Parses ts (Err b) → a ≡ b
one_refusal ts parse.TooDeep parse.TooDeep m n h k = refl
one_refusal ts parse.TooDeep parse.TooManyClauses m n h k = flat_or_deep ts _ _ k.0 h
one_refusal ts parse.TooDeep parse.NotInGrammar m n h k = within_or_limit ts _ _ k.0 h
one_refusal ts parse.TooDeep parse.TraversalTooDeep m n h k = within_or_limit ts _ _ k.0 h
one_refusal ts parse.TooDeep parse.Memory m n h k = absurd (n refl)
one_refusal ts parse.TooManyClauses parse.TooDeep m n h k = flat_or_deep ts _ _ h.0 k
one_refusal ts parse.TooManyClauses parse.TooManyClauses m n h k = refl
one_refusal ts parse.TooManyClauses parse.NotInGrammar m n h k = few_or_many ts _ _ k.0 h.1
one_refusal ts parse.TooManyClauses parse.TraversalTooDeep m n h k = few_or_many ts _ _ k.0 h.1
one_refusal ts parse.TooManyClauses parse.Memory m n h k = absurd (n refl)
one_refusal ts parse.NotInGrammar parse.TooDeep m n h k = within_or_limit ts _ _ h.0 k
one_refusal ts parse.NotInGrammar parse.TooManyClauses m n h k = few_or_many ts _ _ h.0 k.1
one_refusal ts parse.NotInGrammar parse.NotInGrammar m n h k = refl
one_refusal ts parse.NotInGrammar parse.TraversalTooDeep m n h k = absurd (h.1 k.1.0 k.1.1.0)
one_refusal ts parse.NotInGrammar parse.Memory m n h k = absurd (n refl)
one_refusal ts parse.TraversalTooDeep parse.TooDeep m n h k = within_or_limit ts _ _ h.0 k
one_refusal ts parse.TraversalTooDeep parse.TooManyClauses m n h k = few_or_many ts _ _ h.0 k.1
one_refusal ts parse.TraversalTooDeep parse.NotInGrammar m n h k = absurd (k.1 h.1.0 h.1.1.0)
one_refusal ts parse.TraversalTooDeep parse.TraversalTooDeep m n h k = refl
one_refusal ts parse.TraversalTooDeep parse.Memory m n h k = absurd (n refl)
one_refusal ts parse.Memory b m n h k = absurd (m refl)

-- ---- whole texts

-- a text spells one query
pub written_once : (text : List ℕ) (p q : QueryTree) → IsWritten text p → IsWritten text q → p ≡ q
written_once text p q a b =
    let same = one_list text a.tokens b.tokens a.has_tokens.1 b.has_tokens.1 in
    let P : List Token → Type 0 = λ ts. Tree (kinds_of ts) p in
    one_tree (kinds_of b.tokens) p q (subst P same a.spelled) b.spelled

written_or_misspelled : (text : List ℕ) (q : QueryTree) (b : ParseFault) → b ≢ parse.Memory
    → IsWritten text q → Misspells text b → ⊥
written_or_misspelled text q b n a m =
    let same = one_list text m.0 a.tokens m.1.0.1 a.has_tokens.1 in
    let P : List Token → Type 0 = λ ts. Parses (kinds_of ts) (Err b) in
    within_or_refused (kinds_of a.tokens) q b a.within a.spelled a.shallow n (subst P same m.1.1)

misspelled_once : (text : List ℕ) (a b : ParseFault) → a ≢ parse.Memory → b ≢ parse.Memory
    → Misspells text a → Misspells text b → a ≡ b
misspelled_once text a b m n h k =
    let same = one_list text h.0 k.0 h.1.0.1 k.1.0.1 in
    let P : List Token → Type 0 = λ ts. Parses (kinds_of ts) (Err a) in
    one_refusal (kinds_of k.0) a b m n (subst P same h.1.1) k.1.1

-- the four kinds of causes
data Cause (held : List Held) (text : List ℕ) (e : QueryFault) : Type 0 where
  long : e ≡ TooLong → 65536 < length text → Cause held text e
  at : (place : ℕ) (kind : LexKind) → e ≡ Lexical place kind → length text ≤ 65536 → Stops text place kind
      → Cause held text e
  spelled : (fault : ParseFault) → e ≡ of_parse fault → fault ≢ parse.Memory → Misspells text fault
      → Cause held text e
  named : (fault : ScopeFault) (q : QueryTree) → e ≡ Scope fault → IsWritten text q
      → first_fault held q ≡ Some fault → Cause held text e

cause_named : (held : List Held) (text : List ℕ) (f : ScopeFault) → Refuses held text (Scope f)
    → Cause held text (Scope f)
cause_named held text scope.Memory h = absurd h
cause_named held text (scope.UnknownName x) h = named _ h.0 refl h.1.0 h.1.1
cause_named held text (scope.Redeclared x) h = named _ h.0 refl h.1.0 h.1.1
cause_named held text (scope.UnknownCollection x) h = named _ h.0 refl h.1.0 h.1.1
cause_named held text (scope.UnknownFunction x) h = named _ h.0 refl h.1.0 h.1.1
cause_named held text (scope.WrongArity x n) h = named _ h.0 refl h.1.0 h.1.1
cause_named held text (scope.NotEdge x) h = named _ h.0 refl h.1.0 h.1.1
cause_named held text scope.SubqueryNotAllowed h = named _ h.0 refl h.1.0 h.1.1
cause_named held text (scope.BadOption x) h = named _ h.0 refl h.1.0 h.1.1

cause : (held : List Held) (text : List ℕ) (e : QueryFault) → Refuses held text e → Cause held text e
cause held text TooLong h = long refl h
cause held text (Lexical p k) h = at p k refl h.0 h.1
cause held text TooDeep h = spelled parse.TooDeep refl (λ x. absurd (cc)) h
cause held text TooManyClauses h = spelled parse.TooManyClauses refl (λ x. absurd (cc)) h
cause held text NotInGrammar h = spelled parse.NotInGrammar refl (λ x. absurd (cc)) h
cause held text TraversalTooDeep h = spelled parse.TraversalTooDeep refl (λ x. absurd (cc)) h
cause held text (Scope f) h = cause_named held text f h
cause held text Memory h = absurd h

one_named : (held : List Held) (text : List ℕ) (f g : ScopeFault) (p q : QueryTree) → IsWritten text p
    → IsWritten text q → first_fault held p ≡ Some f → first_fault held q ≡ Some g → f ≡ g
one_named held text f g p q a b h k =
    let same = ap (first_fault held) (written_once text p q a b) in cc

one_cause : (held : List Held) (text : List ℕ) (e f : QueryFault) → Cause held text e → Cause held text f
    → e ≡ f
one_cause held text e f (long a h) (long b k) = a ∙ sym b
one_cause held text e f (long a h) (at p l b few k) = absurd (omega arith)
one_cause held text e f (long a h) (spelled g b n k) = let few = k.1.0.0 in absurd (omega arith)
one_cause held text e f (long a h) (named g q b w k) = let few = w.has_tokens.0 in absurd (omega arith)
one_cause held text e f (at p l a few h) (long b k) = absurd (omega arith)
one_cause held text e f (at p l a few h) (at q m b less k) = a ∙ (one_stop text p q l m h k ∙ sym b)
one_cause held text e f (at p l a few h) (spelled g b n k) =
    absurd (list_or_stop text k.0 p l k.1.0.1 h)
one_cause held text e f (at p l a few h) (named g q b w k) =
    absurd (list_or_stop text w.tokens p l w.has_tokens.1 h)
one_cause held text e f (spelled g a m h) (long b k) = let few = h.1.0.0 in absurd (omega arith)
one_cause held text e f (spelled g a m h) (at q l b few k) = absurd (list_or_stop text h.0 q l h.1.0.1 k)
one_cause held text e f (spelled g a m h) (spelled i b n k) =
    a ∙ (ap of_parse (misspelled_once text g i m n h k) ∙ sym b)
one_cause held text e f (spelled g a m h) (named i q b w k) = absurd (written_or_misspelled text q g m w h)
one_cause held text e f (named g p a v h) (long b k) = let few = v.has_tokens.0 in absurd (omega arith)
one_cause held text e f (named g p a v h) (at q l b few k) =
    absurd (list_or_stop text v.tokens q l v.has_tokens.1 k)
one_cause held text e f (named g p a v h) (spelled i b n k) = absurd (written_or_misspelled text p i n v k)
one_cause held text e f (named g p a v h) (named i q b w k) =
    a ∙ (ap Scope (one_named held text g i p q v w h k) ∙ sym b)

no_cause : (held : List Held) (text : List ℕ) (q : QueryTree) (e : QueryFault) → IsWritten text q
    → first_fault held q ≡ None → Cause held text e → ⊥
no_cause held text q e w none (long a h) = let few = w.has_tokens.0 in absurd (omega arith)
no_cause held text q e w none (at p l a few h) = list_or_stop text w.tokens p l w.has_tokens.1 h
no_cause held text q e w none (spelled g a m h) = written_or_misspelled text q g m w h
no_cause held text q e w none (named g p a v h) =
    let same = ap (first_fault held) (written_once text p q v w) in absurd (cc)

-- ---- what is answered

-- each answer of this tree is an answer of the query
abbrev pub KeepsAnswers : QueryTree → QueryTree → Type 0
KeepsAnswers tree q =
    (db : Database) (out : List value.Datum) → IsAnswer db tree empty_row out → IsAnswer db q empty_row out

pub only_answers : {A : Type 0} (tree_of : A → QueryTree) (text : List ℕ) (r : Result A QueryFault)
    → IfOk r (λ s. (q : QueryTree) × (IsWritten text q × KeepsAnswers (tree_of s) q))
    → IfOk r (λ s. (q : QueryTree) → IsWritten text q → KeepsAnswers (tree_of s) q)
only_answers tree_of text (Ok s) h = λ q w.
    let P : QueryTree → Type 0 = λ p. KeepsAnswers (tree_of s) p in
    subst P (written_once text h.0 q h.1.0 w) h.1.1
only_answers tree_of text (Err e) h = tt

abbrev pub GivesFault : {A : Type 0} → List Held → List ℕ → Result A QueryFault → Type 0
GivesFault held text r = IfErr r (λ e. (e ≡ Memory) ⊎ Refuses held text e)

pub only_query : {A : Type 0} (held : List Held) (text : List ℕ) (r : Result A QueryFault)
    → GivesFault held text r → (q : QueryTree) → IsWritten text q → first_fault held q ≡ None
    → IsOkUnless r Memory
only_query held text (Ok s) h q w none = tt
only_query held text (Err e) (inl memory) q w none = memory
only_query held text (Err e) (inr refused) q w none =
    absurd (no_cause held text q e w none (cause held text e refused))

pub only_fault : {A : Type 0} (tree_of : A → QueryTree) (names_of : A → List (List ℕ)) (held : List Held)
    (text : List ℕ) (r : Result A QueryFault) → IfOk r (λ s. IsScoped held text (tree_of s) (names_of s))
    → GivesFault held text r → (fault : QueryFault) → Refuses held text fault
    → (r ≡ Err fault) ⊎ (r ≡ Err Memory)
only_fault tree_of names_of held text (Ok s) g h fault refused =
    absurd (no_cause held text g.spelled fault g.is_written g.no_fault (cause held text fault refused))
only_fault tree_of names_of held text (Err e) g (inl memory) fault refused = inr (ap Err memory)
only_fault tree_of names_of held text (Err e) g (inr found) fault refused =
    inl (ap Err (one_cause held text e fault (cause held text e found) (cause held text fault refused)))
