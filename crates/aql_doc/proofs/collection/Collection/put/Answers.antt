use Rattle.std.proofs.Common.{true, sym, ap, ◌∙◌}
use Rattle.std.proofs.lemmas.Map.Text.{hash_set_updates_text}
use Rattle.aql_doc.specs.KeySet.{has_key}
use Rattle.aql_doc.specs.Documents.{fill}
use Rattle.aql_doc.proofs.Adding.{put_in, made_room}
use Rattle.aql_doc.proofs.collection.Collection.put.Goals as goal

pub invariant_of-self-in_err-push : goal.invariant_of-self-in_err-push
invariant_of-self-in_err-push c = λ q.
    made_room q c.self.inside.taken c.reserve.new.self c.reserve.ensures.keys ∙ c.self.invariant q
    ∙ ap (λ docs. has_key docs q) (sym c.in_err-push.ensures.err)

pub invariant_of-self-2 : goal.invariant_of-self-2
invariant_of-self-2 c = λ q.
    put_in _ _ _ _ _ _ q _ _ _ (c.self.invariant q)
    (made_room q c.self.inside.taken c.reserve.new.self c.reserve.ensures.keys)
    (hash_set_updates_text _ c.reserve.new.self c.insert.new.self true c.in-Ok.ensures.updates q)
    (c.in_ok-filled.ensures
    ∙ ap (λ key. fill c.self.inside.info.name key c.args.members) c.as_str.ensures.value)
    c.in_ok-push.ensures.ok
