-- The loss of a protocol.
use Rattle.router_moments.proofs.Common.{sym, subst, ◌∙◌, ap, ◌≡◌, refl, List, ◌+◌, ◌++◌, ◌≤◌, Speaker, Lose, others_are_unheard, entries_of_entries, Journaled, flushed, with_entries, Leads, Entry, Line, Value, Rows, InteriorRoutes, Proto, Interior, tree_leads, put_all, Branch, LeadsTree, tree_overdue, int_rows, Treed, branch_of, IsTree, tree_links, IsFull, own_rows, best_at, live_state, Moment, router_links, Gives, with_tree, Stands, journal_lines, Pushes, HasStepped}
use Rattle.std.proofs.Common.{length, Some, None, IsSome}
use Rattle.rib_tree.specs.BranchSteps.{lost_branch}
use Rattle.loss_chain.specs.declared.owner.Owner.TheVariants as owners
use Rattle.rib_tree.specs.Steps.{lost_tree, tree_loss_entries}
use Rattle.live_state.specs.Lives.{interior_lost}
use Rattle.router_moments.specs.Works.{EndsProtocol, HasProtocolRoom}
use Rattle.router_moments.proofs.HeardSteps.{heard_quiet}
use Rattle.router_moments.proofs.QueueLemmas.{exits_stay}
use Rattle.router_moments.proofs.RibLinks.{leads_above}
use Rattle.loss_chain.proofs.TableLemmas.{few_lost}
use Rattle.router_moments.proofs.RouteLemmas.{stands_replanted, live_lost}
use Rattle.router_moments.proofs.KeepLemmas.{keeps_then, gives_push}
use Rattle.router_moments.proofs.StandLemmas.{speaker_of}

-- the loss alone
pub protocol_ended : (proto : Proto) (m : Moment) (t : Treed) (before now : Journaled) → Stands m → tree_overdue proto m.tree ≡ None → IsSome m.declared.speaker → t ≡ lost_tree proto m.tree
    → now ≡ with_entries before (tree_loss_entries proto m.tree) → LeadsTree m.tree (tree_loss_entries proto m.tree) t → int_rows t ≡ int_rows m.tree → IsTree t → IsFull t
    → Pushes (EndsProtocol proto m (with_tree m t)) before now
protocol_ended proto m t before now stands free since is lines leads int tree full = (
  journal_lines entries,
  lines,
  record {
    lines = refl;
    after = ap (λ (x : Treed). with_tree m x) is;
    keeps = record {
      leads = subst (λ (es : List (Entry Value)). Leads (router_links m) es (router_links (with_tree m t))) (sym (entries_of_entries entries)) (leads_above m me.0 me.1 t entries leads int);
      live = ap (λ (x : Treed). live_state (with_tree m x)) is ∙ live_lost m proto (lost_branch b);
      stands = stands_replanted m me.0 t m.registry m.hops m.exits m.rib stands me.1 tree full few (stands.registered ∙ sym int) stands.hops stands.external.sound stands.external.agree
          (exits_stay m (with_tree m t) stands stands.exits.rows (ap (λ (rows : Rows Interior). best_at (own_rows m.declared.speaker m.redist rows) m.chains m.hops) int) refl refl refl refl (λ rows over. over));
      heard = heard_quiet m (with_tree m t) (journal_lines entries) (others_are_unheard InteriorRoutes (tree_links m.tree) (tree_links t) entries refl (tree_leads m.tree t entries leads)) refl;
    };
  },
)
  where
    me : (me : Speaker) × (m.declared.speaker ≡ Some me)
    me = speaker_of m.declared.speaker since

    entries : List (Entry Value)
    entries = tree_loss_entries proto m.tree

    b : Branch
    b = branch_of proto m.tree

    few : (other : Proto) → length (branch_of other t).tables.deletions ≤ 16
    few = subst (λ (x : Treed). (other : Proto) → length (branch_of other x).tables.deletions ≤ 16) (sym is)
        (put_all (λ (x : Branch). length x.tables.deletions ≤ 16) proto (lost_branch b) m.tree (few_lost (owners.Origin b.proto) (b.losses + 1) b.tables (stands.interior.few proto) free) stands.interior.few)

-- both, as the event's step
pub protocol_lost : (proto : Proto) (m room m' : Moment) (before j j' now : Journaled) → Gives (HasProtocolRoom proto m room) before j → Pushes (EndsProtocol proto room m') j j' → now ≡ flushed j'
    → Gives (HasStepped m (Lose proto) 0 m') before now
protocol_lost proto m room m' before j j' now r e is = gives_push (HasProtocolRoom proto m room) (EndsProtocol proto room m') (HasStepped m (Lose proto) 0 m') (λ xs ys p q. record {
  block = (refl, record { first = xs; room = room; runs = p.runs; lines = ap (λ (ls : List Line). xs ++ ls) q.lines; after = q.after });
  live = interior_lost (live_state m) proto;
  after = refl;
  keeps = keeps_then m room m' xs ys (λ l. interior_lost l proto) p.keeps q.keeps;
}) before j j' now r e is
