-- A fall in a peer's chain, and the weld behind it.
use Rattle.std.proofs.Common.{◌≡◌, ℕ, List, ◌++◌, Some, sym, ap, subst, ◌∙◌, arith}
use Rattle.std.proofs.lemmas.Option.{same_Some}
use Rattle.journal_text.specs.declared.link.Task.{Task}
use Rattle.journal_text.specs.declared.link.Task.TheVariants.{Del, Fin}
use Rattle.journal_text.specs.Lines.{Entry}
use Rattle.journal_text.specs.Lines.{Value}
use Rattle.journal_text.specs.Journals.{Journaled, with_entries}
use Rattle.journal_text.proofs.JournalLemmas.{with_entries_append}
use Rattle.in_chain.specs.Chains.{Chained}
use Rattle.in_chain.specs.Steps.{welded}
use Rattle.peer_side.specs.Peers.{Chains, chain_at, put_chain, AreBefore}
use Rattle.peer_side.specs.Steps.{chain_weld_entries, WeldsPeer, WeldsInward, Nears}
use Rattle.peer_side.proofs.PutLemmas.{put_here, put_twice}

-- ---- the peer's chain
pub fallen_at : (k : ℕ) (a fallen : Chains) (c : Chained) → fallen ≡ put_chain k c a → chain_at k fallen ≡ Some c
fallen_at k a fallen c is = ap (chain_at k) is ∙ put_here k c a

module _ (k : ℕ) (a fallen cs : Chains) (c : Chained) (entries : List (Entry Value)) (is : fallen ≡ put_chain k c a) where
  emptied : (w : WeldsPeer k fallen cs entries) → w.chain ≡ c
  emptied w = same_Some w.chain c (sym w.at ∙ fallen_at k a fallen c is)

  pub weld_lines : WeldsPeer k fallen cs entries → entries ≡ chain_weld_entries c
  weld_lines w = w.lines ∙ ap chain_weld_entries (emptied w)

  pub weld_after : WeldsPeer k fallen cs entries → cs ≡ put_chain k (welded c) a
  weld_after w = w.after ∙ ap (λ (x : Chained). put_chain k (welded x) fallen) (emptied w) ∙ ap (put_chain k (welded c)) is ∙ put_twice k c (welded c) a

  pub weld_keeps : WeldsInward k fallen cs entries → (s : ℕ) → AreBefore s c → AreBefore s (welded c)
  weld_keeps w s = subst (λ (x : Chained). AreBefore s x → AreBefore s (welded x)) (emptied w.welds) (w.before s)

-- a weld gives no task more to do
pub nears_weld : (task : Task) (k : ℕ) (a fallen cs : Chains) (entries : List (Entry Value)) → Nears task a fallen → WeldsInward k fallen cs entries → Nears task a cs
nears_weld (Del n s) k a fallen cs entries near w = let l = near.0 in let m = near.1 in let e = w.lost in let f = w.left in (omega (arith, l, e), omega (arith, m, f))
nears_weld (Fin n) k a fallen cs entries near w = let l = near.0 in let m = near.1 in let e = w.lost in let f = w.left in (omega (arith, l, e), omega (arith, m, f))
nears_weld other k a fallen cs entries near w = absurd near

-- ---- what both write
pub adds_both : (before j now : Journaled) (entries weld : List (Entry Value)) → j ≡ with_entries before entries → now ≡ with_entries j weld → now ≡ with_entries before (entries ++ weld)
adds_both before j now entries weld first next = next ∙ ap (λ (x : Journaled). with_entries x weld) first ∙ with_entries_append before entries weld
