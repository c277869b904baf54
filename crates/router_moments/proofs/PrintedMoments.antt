-- What stands between two steps can be printed: the rows that each stage has, and what the register answers.
use Rattle.router_moments.proofs.Common.{sym, subst, ◌∙◌, ap, ◌≡◌, ℕ, refl, true, arith, suc, zero, Route, Neighbour, Profile, best_is_a_branchs, peer_at, DeclaredPeer, AreBestRows, resolver_at, res_at, Chained, AllHaveMetrics, Prints, IsFit, neighbours, words_in, printing, Printing, AreTablesOf, IsInteriorRow, IsPrintableChain, IsWay, IsNameNumber, route_value, interior_value, Rows, metric_of, way_of, answer_of, chain_at, filt_at, filt_by, Proto, int_rows, branch_of, all_at, Moment, best_of, own_of, read_of, IsPrintableMoment, Stands}
use Rattle.std.proofs.Common.{Option, Some, None}
use Rattle.event_text.specs.Declarations.{IsDeclaration}
use Rattle.journal_laws.specs.Standing.{IsMetric}
use Rattle.journal_laws.proofs.DeclaredPeers.{IsKnown, known_peer, leaves_all}
use Rattle.journal_laws.proofs.PrintedHops.{rows_print, metrics_fit, ways_fit}
use Rattle.journal_laws.proofs.PrintedRows.{AreFit, filt_prints, int_prints}
use Rattle.router_moments.proofs.StandLemmas.{peer_of}
use Rattle.router_moments.proofs.HeardRows.{heard_of}
use Rattle.router_moments.proofs.OwnRows.{known_best}
use Rattle.router_moments.proofs.PrintedForwards.{own_print}
use Rattle.router_moments.proofs.PrintedReaders.{read_are}

-- what `best` is made of, in a network of its profile's family
pub record IsShown (m : Moment) : Type 0 where
  pub family : m.declared.profile.second ≡ m.declared.v6
  pub declared : IsDeclaration m.declared
  pub chains : (k : ℕ) (c : Chained) → chain_at k m.chains ≡ Some c → IsPrintableChain m.declared.profile c
  pub interior : (proto : Proto) → AreTablesOf (IsInteriorRow m.declared.v6) (branch_of proto m.tree).tables
  pub hops : AllHaveMetrics m.hops

pub shown : (m : Moment) → IsPrintableMoment m → IsShown m
shown m printable = record { family = printable.exits.family; declared = printable.declared; chains = printable.chains; interior = printable.interior; hops = printable.hops }

module _ (m : Moment) (stands : Stands m) (is : IsShown m) where
  -- how its lines are printed
  abbrev texts : Printing
  texts = printing m.declared

  -- ---- peers
  pub known_at : (k : ℕ) (p : DeclaredPeer) → peer_at k m.declared.peers ≡ Some p → IsKnown k p
  known_at k p at = known_peer m.declared k p is.declared at

  pub named_by : (k : ℕ) (p : DeclaredPeer) → peer_at k m.declared.peers ≡ Some p → IsNameNumber k
  named_by k p at = let known = known_at k p at in let most = known.most in (known.least, omega (arith, most))

  pub session_named : (k : ℕ) (p : DeclaredPeer) → peer_at k m.declared.peers ≡ Some p → p.up ≡ true → IsNameNumber p.session
  session_named k p at up = let known = known_at k p at in let most = known.session in (known.begun up, omega (arith, most))

  -- ---- the stages
  pub chain_fit : (k : ℕ) (c : Chained) → chain_at k m.chains ≡ Some c → IsFit texts m.declared.profile c × (c.peer.number ≡ k) × (c.incoming.number ≡ k)
  chain_fit k c there =
      let p = peer_of m stands k c there in
      let known = known_at k p.0 p.1 in
      let number : c.peer.number ≡ k = ap (λ (w : Neighbour). w.number) p.2.words ∙ known.number in
      let chain = stands.peers.chains k c there in
      let most = known.most in (
        record {
          family = is.family;
          known = ap (neighbours m.declared) number ∙ ap words_in p.1 ∙ ap Some (sym p.2.words);
          small = omega (arith, number, most);
          named = subst IsNameNumber (sym chain.number) (named_by k p.0 p.1);
          printable = is.chains k c there;
          rising = chain.chain.rising;
        },
        number,
        chain.number,
      )

  pub tree_fit : (proto : Proto) → AreFit (IsInteriorRow m.declared.v6) (branch_of proto m.tree).tables
  tree_fit proto = record { printable = is.interior proto; rising = (stands.interior.tree.each proto).chain.rising }

  -- ---- their rows
  pub filt_shown : (k : ℕ) → Prints texts route_value (filt_at m.chains k)
  filt_shown k = by_chain (chain_at k m.chains) refl
    where
      by_chain : (o : Option Chained) → chain_at k m.chains ≡ o → Prints texts route_value (filt_by o)
      by_chain None at = λ p row none. absurd (cc)
      by_chain (Some c) at = filt_prints texts m.declared.profile c (chain_fit k c at).0

  pub res_shown : (k : ℕ) → Prints texts route_value (res_at m.hops (filt_at m.chains) k)
  res_shown k = rows_print texts (resolver_at k m.hops) (filt_at m.chains k) (λ s at. is.hops k s at) (filt_shown k)

  pub int_shown : Prints texts interior_value (int_rows m.tree)
  int_shown = int_prints texts m.tree is.interior

  pub own_shown : Prints texts route_value (own_of m)
  own_shown = own_print m.declared.profile texts is.family (leaves_all m.declared is.declared).peers.nobody m.declared.speaker m.redist (int_rows m.tree) stands.exits.sender int_shown

  all_shown : (k : ℕ) → Prints texts route_value (all_at (own_of m) m.chains m.hops k)
  all_shown zero = own_shown
  all_shown (suc k) = res_shown (suc k)

  -- the best of all can be said to peers, and printed
  pub best_fit : AreBestRows m.declared.profile texts (best_of m)
  best_fit p row at =
      let b = best_is_a_branchs (all_at (own_of m) m.chains m.hops) p row at in
      let shown = all_shown b.0 p row b.2 in
      record { prefix = shown.0; heard = heard_of m stands p row at; own = known_best m p row at; printed = shown.1 }

  -- ---- what the register answers
  pub metrics_answered : (a : ℕ) → IsMetric (answer_of metric_of m.registry a)
  metrics_answered = metrics_fit texts m.registry (int_rows m.tree) stands.registered int_shown

  pub ways_answered : (a : ℕ) → IsWay m.declared.v6 (answer_of way_of m.registry a)
  ways_answered = ways_fit texts m.registry (int_rows m.tree) stands.registered int_shown

-- ---- what the forwarding side has read
pub read_fit : (m : Moment) → Stands m → IsPrintableMoment m → AreBestRows m.declared.profile (printing m.declared) (read_of m)
read_fit m stands printable = read_are m.declared.profile (printing m.declared) m.exits m.reader (best_of m) printable.exits (best_fit m stands (shown m printable))

pub best_shown : (printing : Printing) (profile : Profile) (rows : Rows Route) → AreBestRows profile printing rows → Prints printing route_value rows
best_shown printing profile rows are p row at = let own = are p row at in (own.prefix, own.printed)
