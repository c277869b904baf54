-- Room for one more deletion stage of a protocol.
use Rattle.router_moments.proofs.Common.{sym, subst, ◌∙◌, ap, ◌≡◌, ℕ, refl, List, arith, Bool, cond, suc, zero, ◌||◌, nat_lt, Journaled, flushed, Line, Task, is_empty_map, no_table, same_by, table_of, swept_one, Proto, Interior, welded_branch, swept_branch, Branch, tree_overdue, Treed, branch_of, RunsFirst, Moment, Gives, Stands, Turns, HasDrained}
use Rattle.std.proofs.Common.{[], map, length, Option, Some, None}
use Rattle.std.specs.List.{filter}
use Rattle.journal_text.specs.declared.link.Task.TheVariants.{Rdel}
use Rattle.loss_chain.specs.declared.owner.Owner.TheVariants as owners
use Rattle.loss_chain.specs.Lost.{Lost}
use Rattle.router_moments.specs.Works.{HasProtocolRoom}
use Rattle.loss_chain.proofs.TableLemmas.{is_full, Shorter, shorter_none, shorter_more, free_of, stage_of}
use Rattle.rib_tree.proofs.BranchLemmas.{put_own}
use Rattle.rib_tree.proofs.TreeParts.{welded_put}
use Rattle.router_moments.proofs.KeepLemmas.{keeps_none, gives_none}
use Rattle.router_moments.proofs.TurnLaws.{turns_work}

abbrev stages : Proto → Moment → List (Lost Interior)
stages proto m = (branch_of proto m.tree).tables.deletions

-- the stages of a protocol after turns of one of them, which may have gone
turns_shorter : (turns : ℕ) (proto : Proto) (n : ℕ) (m : Moment) (said : List Line) (m' : Moment) → Turns turns (Rdel proto n) m said m' → Shorter n (stages proto m) (stages proto m')
turns_shorter zero proto n m said m' t = subst (λ (x : Moment). Shorter n (stages proto m) (stages proto x)) (sym t.1) (shorter_none n (stages proto m))
turns_shorter (suc k) proto n m said m' t = shorter_more n t.3.prefix (stages proto m) (stages proto m') (subst (λ (ds : List (Lost Interior)). Shorter n ds (stages proto m')) swept (turns_shorter k proto n t.2 t.1 m' t.4))
  where
    b : Branch
    b = swept_branch n t.3.prefix (branch_of proto m.tree)

    swept : stages proto t.2 ≡ filter is_full (map (swept_one n t.3.prefix) (stages proto m))
    swept = ap (stages proto) t.3.falls.after ∙ ap (λ (x : Treed). (branch_of proto x).tables.deletions) (welded_put proto b m.tree)
        ∙ ap (λ (x : Branch). x.tables.deletions) (put_own proto (welded_branch b) m.tree)

drained_free : (proto : Proto) (m room : Moment) (task : Task) (turns : ℕ) (said : List Line) → Stands m → tree_overdue proto m.tree ≡ Some task → HasDrained task m turns room said → tree_overdue proto room.tree ≡ None
drained_free proto m room task turns said stands over d =
    let b : Branch = branch_of proto m.tree in
    let stage = stage_of (nat_lt (length b.tables.deletions) 16 || is_empty_map b.tables.live) (owners.Origin b.proto) b.tables.deletions task over in
    let n : ℕ = stage.0.number in
    let is : task ≡ Rdel proto n = stage.3 ∙ ap (λ (k : Proto). Rdel k n) (stands.interior.tree.placed proto) in
    let drained : HasDrained (Rdel proto n) m turns room said = subst (λ (t : Task). HasDrained t m turns room said) is d in
    let r = turns_shorter turns proto n m said room drained.taken in
    let there : table_of n b.tables.deletions ≡ Some stage.0.rows = ap (table_of n) stage.2 ∙ ap (λ (x : Bool). cond x (Some stage.0.rows) (table_of n stage.1)) (same_by n n refl) in
    let none : table_of n (branch_of proto room.tree).tables.deletions ≡ None = no_table (table_of n (branch_of proto room.tree).tables.deletions) drained.ended in
    let less = r.gone stage.0.rows there none in
    let few = stands.interior.few proto in
    free_of (owners.Origin (branch_of proto room.tree).proto) (branch_of proto room.tree).tables (omega (arith, less, few))

pub protocol_room_drained : (proto : Proto) (m room : Moment) (task : Task) (turns : ℕ) (before now : Journaled) → Stands m → Some task ≡ tree_overdue proto m.tree → Gives (HasDrained task m turns room) before now
    → Gives (HasProtocolRoom proto m room) before now
protocol_room_drained proto m room task turns before now stands over g = (
  g.0,
  g.1,
  record {
    runs = subst (λ (o : Option Task). RunsFirst o m g.0 room) over (turns, (g.2.taken, g.2.ended));
    keeps = (turns_work turns task m g.0 room stands g.2.taken).keeps;
    free = drained_free proto m room task turns g.0 stands (sym over) g.2;
  },
)

pub protocol_room_there : (proto : Proto) (m : Moment) (before now : Journaled) → Stands m → None ≡ tree_overdue proto m.tree → now ≡ flushed before → Gives (HasProtocolRoom proto m m) before now
protocol_room_there proto m before now stands over is =
    gives_none (HasProtocolRoom proto m m) before now (record { runs = subst (λ (o : Option Task). RunsFirst o m [] m) over (refl, refl); keeps = keeps_none m stands; free = sym over }) is
