-- Room for one more deletion stage.
use Rattle.router_moments.proofs.Common.{sym, subst, ◌∙◌, ap, ◌≡◌, ℕ, refl, List, true, arith, Bool, cond, suc, zero, nat_eq, ◌&&◌, ◌||◌, nat_lt, same_Some, Chained, welded, Journaled, flushed, Line, Task, is_empty_map, no_table, same_by, table_of, chain_at, overdue_at, has_turn_in, RunsFirst, Moment, Gives, Stands, Turns, HasDrained}
use Rattle.std.proofs.Common.{[], Option, Some, None, is_some, length}
use Rattle.std.specs.Prelude.{IsSome}
use Rattle.journal_text.specs.declared.link.Task.TheVariants.{Del}
use Rattle.loss_chain.specs.declared.owner.Owner.TheVariants as owners
use Rattle.loss_chain.proofs.TableLemmas.{Shorter, shorter_none, shorter_more, free_of, stage_of}
use Rattle.in_chain.specs.Incomings.{overdue_of}
use Rattle.in_chain.specs.Steps.{swept, Sweeps}
use Rattle.peer_side.specs.Peers.{overdue_by}
use Rattle.peer_side.specs.Steps.{TurnsPeer}
use Rattle.peer_side.proofs.PutLemmas.{put_here}
use Rattle.router_moments.specs.Works.{HasRoom}
use Rattle.peer_side.proofs.WeldLemmas.{weld_after}
use Rattle.router_moments.proofs.KeepLemmas.{keeps_none, gives_none}
use Rattle.router_moments.proofs.TurnWalks.{turns_same}
use Rattle.router_moments.proofs.TurnLaws.{turns_work}

-- the chain after turns of a stage, which may have gone
turns_shorter : (n k s : ℕ) (m : Moment) (c : Chained) (said : List Line) (m' : Moment) → chain_at k m.chains ≡ Some c → Turns n (Del k s) m said m'
    → (c' : Chained) × (chain_at k m'.chains ≡ Some c') × Shorter s c.incoming.tables.deletions c'.incoming.tables.deletions
turns_shorter zero k s m c said m' at t = (c, ap (λ (x : Moment). chain_at k x.chains) t.1 ∙ at, shorter_none s c.incoming.tables.deletions)
turns_shorter (suc n) k s m c said m' at t =
    let rest = turns_shorter n k s t.2 c1 t.1 m' at1 t.4 in
    (rest.0, rest.1, shorter_more s sweeps.prefix c.incoming.tables.deletions rest.0.incoming.tables.deletions rest.2)
  where
    turn : TurnsPeer (Del k s) t.3.0 m.chains t.3.1.fallen t.3.1.entries
    turn = t.3.1.part.turn

    sweeps : Sweeps turn.chain turn.turned_chain s t.3.0 t.3.1.entries
    sweeps = turn.turned.1

    c1 : Chained
    c1 = welded (swept s sweeps.prefix c)

    at1 : chain_at k t.2.chains ≡ Some c1
    at1 = ap (λ (x : Moment). chain_at k x.chains) t.3.1.after ∙ ap (chain_at k) (weld_after k m.chains t.3.1.fallen t.2.chains turn.turned_chain t.3.1.weld turn.after t.3.1.welds.welds)
        ∙ put_here k (welded turn.turned_chain) m.chains
        ∙ ap (λ (x : Chained). Some (welded x)) (sweeps.after ∙ ap (swept s sweeps.prefix) (same_Some turn.chain c (sym turn.at ∙ at)))

drained_free : (k : ℕ) (m room : Moment) (c : Chained) (task : Task) (n : ℕ) (said : List Line) → Stands m → chain_at k m.chains ≡ Some c → overdue_of c.incoming ≡ Some task → HasDrained task m n room said → overdue_at k room.chains ≡ None
drained_free k m room c task n said stands at over d =
    let stage = stage_of (nat_lt (length c.incoming.tables.deletions) 16 || is_empty_map c.incoming.tables.live) (owners.Peer c.incoming.number) c.incoming.tables.deletions task over in
    let is : task ≡ Del k stage.0.number = stage.3 ∙ ap (λ (j : ℕ). Del j stage.0.number) (stands.peers.chains k c at).number in
    let drained : HasDrained (Del k stage.0.number) m n room said = subst (λ (t : Task). HasDrained t m n room said) is d in
    let r = turns_shorter n k stage.0.number m c said room at drained.taken in
    let there : table_of stage.0.number c.incoming.tables.deletions ≡ Some stage.0.rows = ap (table_of stage.0.number) stage.2 ∙ ap (λ (b : Bool). cond b (Some stage.0.rows) (table_of stage.0.number stage.1)) (same_by stage.0.number stage.0.number refl) in
    let own : nat_eq k r.0.incoming.number ≡ true = same_by k r.0.incoming.number (sym ((turns_work n (Del k stage.0.number) m said room stands drained.taken).keeps.stands.peers.chains k r.0 r.1).number) in
    let none : table_of stage.0.number r.0.incoming.tables.deletions ≡ None = no_table (table_of stage.0.number r.0.incoming.tables.deletions)
    (sym (ap (λ (b : Bool). b && is_some (table_of stage.0.number r.0.incoming.tables.deletions)) own) ∙ sym (ap (has_turn_in (Del k stage.0.number)) r.1) ∙ drained.ended) in
    let less = r.2.gone stage.0.rows there none in
    let few = (stands.peers.chains k c at).few in
    ap overdue_by r.1 ∙ free_of (owners.Peer r.0.incoming.number) r.0.incoming.tables (omega (arith, less, few))

-- a peer whose stage is overdue has a chain
overdue_there : (o : Option Chained) (task : Task) → overdue_by o ≡ Some task → (c : Chained) × (o ≡ Some c) × (overdue_of c.incoming ≡ Some task)
overdue_there None task e = absurd (cc)
overdue_there (Some c) task e = (c, refl, e)

pub room_drained : (k : ℕ) (m v room : Moment) (task : Task) (n : ℕ) (before now : Journaled) → v ≡ m → Stands m → Some task ≡ overdue_at k v.chains → Gives (HasDrained task m n room) before now → Gives (HasRoom k m room) before now
room_drained k m v room task n before now view stands over g = (
  g.0,
  g.1,
  record {
    there = ap is_some c.1;
    runs = subst (λ (o : Option Task). RunsFirst o m g.0 room) is (n, (g.2.taken, g.2.ended));
    keeps = (turns_work n task m g.0 room stands g.2.taken).keeps;
    free = drained_free k m room c.0 task n g.0 stands c.1 c.2 g.2;
    same = turns_same n task m g.0 room stands g.2.taken;
  },
)
  where
    is : Some task ≡ overdue_at k m.chains
    is = over ∙ ap (λ (x : Moment). overdue_at k x.chains) view

    c : (c : Chained) × (chain_at k m.chains ≡ Some c) × (overdue_of c.incoming ≡ Some task)
    c = overdue_there (chain_at k m.chains) task (sym is)

pub room_there : (k : ℕ) (m v : Moment) (before now : Journaled) → v ≡ m → Stands m → IsSome (chain_at k m.chains) → None ≡ overdue_at k v.chains → now ≡ flushed before → Gives (HasRoom k m m) before now
room_there k m v before now view stands there over is =
    let none : None ≡ overdue_at k m.chains = over ∙ ap (λ (x : Moment). overdue_at k x.chains) view in
    gives_none (HasRoom k m m) before now (record { there = there; runs = subst (λ (o : Option Task). RunsFirst o m [] m) none (refl, refl); keeps = keeps_none m stands; free = sym none; same = λ j. refl }) is
