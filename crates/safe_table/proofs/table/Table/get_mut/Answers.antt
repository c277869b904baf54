use Rattle.std.proofs.Common.{◌∙◌, is_some, sym, ap, inl, inr}
use Rattle.std.specs.FinMap as map
use Rattle.safe_table.specs.Fields.{live_value}
use Rattle.safe_table.specs.Tables.{Rows}
use Rattle.safe_table.proofs.Keeping.{get-live, has_live, sound_set, rows_set}
use Rattle.safe_table.proofs.Maps.{none_of}
use Rattle.safe_table.proofs.table.Table.get_mut.Goals as goal

pub value_near-requires : goal.value_near-requires
value_near-requires g c =
    let m = c.self.inside.trie.rows in
    has_live m c.args.prefix (ap is_some (get-live m c.args.prefix) ∙ sym c.in-Some.ensures)

pub row_mut-requires : goal.row_mut-requires
row_mut-requires g c = ap (λ o. is_some (live_value o)) (sym c.value_near.ensures.value) ∙ sym c.in-Some.ensures

pub invariant_of-self-lent : goal.invariant_of-self-lent
invariant_of-self-lent g c = λ w.
    sound_set c.self.inside.trie.rows c.self.inside.places.slots c.self.inside.count c.args.prefix c.value_near.result.now w c.self.invariant c.value_near.ensures.value (sym c.in-Some.ensures)

pub returns : goal.returns
returns g c =
    let m = c.self.inside.trie.rows in (
      λ i. inl (
        c.row_mut.result.ghost_name,
        λ w. (rows_set m c.self.inside.places.slots c.args.prefix c.value_near.result.now.readers w ∙ ap (λ (v : Rows _). record { rows = map.insert v.rows c.args.prefix w; iterators = v.iterators }) c.self.view_is) i,
      ),
      record { writes_back = tt; value = sym c.row_mut.ensures.value ∙ ap live_value (sym c.value_near.ensures.value) ∙ sym (get-live m c.args.prefix) ∙ ap (λ (v : Rows _). map.get v.rows c.args.prefix) c.self.view_is },
    )

pub returns-in-None : goal.returns-in-None
returns-in-None g c =
    let m = c.self.inside.trie.rows in (
      λ i. inr (c.self.view_is i),
      record { writes_back = tt; value = sym (none_of _ (sym c.in-None.ensures)) ∙ sym (get-live m c.args.prefix) ∙ ap (λ (v : Rows _). map.get v.rows c.args.prefix) c.self.view_is },
    )
