use Rattle.std.proofs.Common.{◌-◌, ◌∙◌, cond, sym, ap, subst}
use Rattle.std.specs.FinMap as map
use Rattle.safe_table.specs.Fields.{IsSound}
use Rattle.safe_table.proofs.Keeping.{get-live, sound_taken, rows_taken, counted_row, unread}
use Rattle.safe_table.proofs.Keeping.{Taken}
use Rattle.safe_table.proofs.table.Table.remove.Goals as goal

pub without_row-self-inside-requires : goal.without_row-self-inside-requires
without_row-self-inside-requires g c = λ t. counted_row c.self.inside.trie.rows c.self.inside.places.slots c.self.inside.count c.args.prefix c.take-before.result c.self.invariant c.take-before.ensures.before (sym c.is_some.ensures ∙ t)

pub invariant_of-self : goal.invariant_of-self
invariant_of-self g c =
    let e = c.take-before.ensures in
    let t : Taken c.self.inside.trie.rows c.take-before.new.trie.rows c.args.prefix = record { absent = e.absent; goes = e.goes; stays = e.stays } in
    let whole = sound_taken c.self.inside.trie.rows c.take-before.new.trie.rows c.self.inside.places.slots c.self.inside.count c.args.prefix c.take-before.result c.self.invariant t e.before in
    subst (IsSound c.take-before.new.trie.rows c.self.inside.places.slots) (sym (c.without_row-self-inside.ensures ∙ ap (λ b. cond b (c.self.inside.count - 1) c.self.inside.count) c.is_some.ensures)) whole

pub returns-clause-before : goal.returns-clause-before
returns-clause-before g c = c.take-before.ensures.before ∙ sym (get-live c.self.inside.trie.rows c.args.prefix) ∙ ap (λ v. map.get v.rows c.args.prefix) c.self.view_is

pub returns-clause-rows : goal.returns-clause-rows
returns-clause-rows g c =
    let e = c.take-before.ensures in
    rows_taken c.self.inside.trie.rows c.take-before.new.trie.rows c.args.prefix (record { absent = e.absent; goes = e.goes; stays = e.stays }) ∙ ap (λ v. map.remove v.rows c.args.prefix) c.self.view_is

pub take-before-requires : goal.take-before-requires
take-before-requires g c = λ t s found. unread c.self.inside.trie.rows c.self.inside.places.slots c.args.prefix s c.self.invariant.kept (c.nobody_at-alone.ensures t) found
