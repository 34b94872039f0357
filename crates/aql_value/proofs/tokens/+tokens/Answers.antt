use Rattle.std.proofs.Common.{◌≡◌, subst, ◌-◌, ◌∷◌, ◌++◌, [], Some, None, rules, arith, sym, ap, ◌∙◌, w64}
use mir.Val.{to_z, of_z}
use Rattle.json.specs.Json.{after_end_array, read_key}
use Rattle.json.specs.Token.{Token}
use Rattle.json.specs.Reads.{token_of}
use Rattle.json.proofs.Grammar.{read_key-shorter}
use Rattle.std.proofs.lemmas.Option.{IfSome_then}
use Rattle.aql_value.specs.Datum.{number, object_of}
use Rattle.aql_value.specs.Attributes.{with_attribute}
use Rattle.aql_value.specs.View.{datum_of}
use Rattle.aql_value.specs.Fields.{fields_in}
use Rattle.aql_value.specs.WellFormed.{FieldsWellFormed}
use Rattle.aql_value.specs.inner.Tokens.{ReadsMembers}
use Rattle.aql_value.specs.laws.Kept.{well_with}
use Rattle.aql_value.proofs.OnePass.{MembersSoFar, done, null_read, bool_read, text_read, number_read, array_read, object_read, no_items_yet, one_more_item, items_read, no_members_yet, one_more_member, members_read}
use Rattle.aql_value.proofs.tokens.+tokens.Goals as goal

pub read-returns-in-Null-clause-reads : goal.read-returns-in-Null-clause-reads
read-returns-in-Null-clause-reads t c =
    let left = c.next.new.self in
    let first : c.args.reader.now ≡ Token.null ∷ left =
    c.in_ok-token.ensures.value ∙ ap (λ k. token_of k ∷ left) c.in-Null.is in
    rw first (null_read c.args.room left)

pub read-returns-in-Bool-clause-reads : goal.read-returns-in-Bool-clause-reads
read-returns-in-Bool-clause-reads t c =
    let left = c.next.new.self in
    let first : c.args.reader.now ≡ Token.boolean c.in-Bool.b ∷ left =
    c.in_ok-token.ensures.value ∙ ap (λ k. token_of k ∷ left) c.in-Bool.is in
    rw first (bool_read c.args.room c.in-Bool.b left)

pub read-returns-in_ok-whole_number-in-Number-clause-reads :
    goal.read-returns-in_ok-whole_number-in-Number-clause-reads
read-returns-in_ok-whole_number-in-Number-clause-reads t c =
    let left = c.next.new.self in
    let z = c.in_ok-whole_number-in-Number.field-0 in
    let first : c.args.reader.now ≡ Token.number c.in-Number.text.now ∷ left =
    c.in_ok-token.ensures.value ∙ ap (λ k. token_of k ∷ left) c.in-Number.is in
    let same : number (to_z w64 (of_z w64 z)) ≡ number z = search rules in
    rw (same, first)
    (number_read c.args.room c.in-Number.text.now z left c.in_ok-whole_number-in-Number.ensures)

pub read-returns-in-Ok-clause-reads : goal.read-returns-in-Ok-clause-reads
read-returns-in-Ok-clause-reads t c =
    let left = c.next.new.self in
    let first : c.args.reader.now ≡ Token.string c.in-String.text.now ∷ left =
    c.in_ok-token.ensures.value ∙ ap (λ k. token_of k ∷ left) c.in-String.is in
    rw (c.in-Ok.ensures, first) (text_read c.args.room c.in-String.text.now left)

pub read-returns-in_ok-read_items-in-BeginArray-clause-reads :
    goal.read-returns-in_ok-read_items-in-BeginArray-clause-reads
read-returns-in_ok-read_items-in-BeginArray-clause-reads t c =
    let left = c.next.new.self in
    let first : c.args.reader.now ≡ Token.begin_array ∷ left =
    c.in_ok-token.ensures.value ∙ ap (λ k. token_of k ∷ left) c.in-BeginArray.is in
    rw first
    (array_read c.args.room (c.args.room - 1) left c.read_items.new.reader
    c.in_ok-read_items-in-BeginArray.field-0 (omega arith)
    c.in_ok-read_items-in-BeginArray.ensures.reads)

pub read-returns-in_ok-read_members-in-BeginObject-clause-reads :
    goal.read-returns-in_ok-read_members-in-BeginObject-clause-reads
read-returns-in_ok-read_members-in-BeginObject-clause-reads t c =
    let left = c.next.new.self in
    let first : c.args.reader.now ≡ Token.begin_object ∷ left =
    c.in_ok-token.ensures.value ∙ ap (λ k. token_of k ∷ left) c.in-BeginObject.is in
    rw first
    (object_read c.args.room (c.args.room - 1) left c.read_members.new.reader
    c.in_ok-read_members-in-BeginObject.field-0 (omega arith)
    c.in_ok-read_members-in-BeginObject.ensures.reads)

pub read_items-items-init : goal.read_items-items-init
read_items-items-init t c = rw c.new-found.ensures (no_items_yet c.args.room c.args.reader.now)

pub read_items-items-preserved : goal.read_items-items-preserved
read_items-items-preserved t c =
    let at = c.items.reader in
    let goes : (after_end_array at ≡ None) × (c.take_end_array.new.self ≡ at) = grind arith in
    let pushed : c.push.new.self ≡ c.items.found ++ datum_of c.in_ok-item.item ∷ [] =
    done c.push.result (sym c.if-is_err.ensures.value) c.push.ensures.ok in
    rw pushed
    (one_more_item c.args.room c.items.found (datum_of c.in_ok-item.item) c.args.reader.now at
    c.read.new.reader c.items.invariant goes.0 (rw goes.1 at c.in_ok-item.ensures.shorter)
    (rw goes.1 at c.in_ok-item.ensures.reads))

pub read_items-returns-clause-reads : goal.read_items-returns-clause-reads
read_items-returns-clause-reads t c =
    let ends : after_end_array c.items.reader ≡ Some c.take_end_array.new.self = grind arith in
    rw c.shrink.ensures
    (items_read c.args.room c.items.found c.args.reader.now c.items.reader c.take_end_array.new.self
    c.items.invariant ends)

pub read_members-members-init : goal.read_members-members-init
read_members-members-init t c =
    subst (λ es. MembersSoFar c.args.room (fields_in es) c.args.reader.now c.args.reader.now
    × FieldsWellFormed (object_of (fields_in es)))
    (sym c.in-Ok.ensures.items) (no_members_yet c.args.room c.args.reader.now, tt)

pub read_members-set_in-requires : goal.read_members-set_in-requires
read_members-set_in-requires t c = c.members.invariant.1

pub read_members-shared-requires : goal.read_members-shared-requires
read_members-shared-requires t c =
    subst (λ es. FieldsWellFormed (object_of (fields_in es))) (sym c.shrink_to.ensures.items)
    c.members.invariant.1

pub read_members-returns-in_default-key-clause-reads :
    goal.read_members-returns-in_default-key-clause-reads
read_members-returns-in_default-key-clause-reads t c =
    let ends : read_key c.members.reader ≡ Some (None, c.next_key.new.self) = grind arith in
    let all = members_read c.args.room (fields_in c.members.found.items) c.args.reader.now c.members.reader
    c.next_key.new.self c.members.invariant.0 ends in
    IfSome_then c.shared.result c.shared.ensures
    (λ ms e. subst (λ fs. ReadsMembers c.args.room c.args.reader.now c.next_key.new.self fs)
    (sym (e ∙ ap fields_in c.shrink_to.ensures.items)) all)

pub read_members-members-preserved : goal.read_members-members-preserved
read_members-members-preserved t c =
    let at = c.members.reader in
    let behind = c.next_key.new.self in
    let k = c.in-Some.key.now in
    let found = fields_in c.members.found.items in
    let value = datum_of c.in_ok-value.value in
    let key : read_key at ≡ Some (Some k, behind) = grind arith in
    let put : fields_in c.set_in.new.entries.items ≡ with_attribute c.in-Ok-new.name value found =
    done c.set_in.result (sym c.if-is_err.ensures.value) c.set_in.ensures.ok in (
      rw (put, c.in-Ok-new.ensures)
          (one_more_member c.args.room found k value c.args.reader.now at behind c.read.new.reader
          c.members.invariant.0 key (read_key-shorter at (Some k) behind key) c.in_ok-value.ensures.shorter
          c.in_ok-value.ensures.reads),
      subst (λ fs. FieldsWellFormed (object_of fs)) (sym put)
          (well_with c.in-Ok-new.name value found c.members.invariant.1 c.recall_well_formed.ensures
          c.recall_utf8.ensures),
    )
