-- The first peer whose next hops have work.
use Rattle.std.proofs.Common.{◌≡◌, ℕ, Bool, false, cond, List, [], ◌∷◌, Option, Some, None, refl, sym, ap, ◌∙◌}
use Rattle.std.specs.Prelude.{IfNone, option_map}
use Rattle.std.specs.List.{AllByRecursion, find, sum_by}
use Rattle.std.specs.Map.{keys_of, values_of}
use Rattle.std.specs.FinMap as tables
use Rattle.std.specs.Cmp.{nat_cmp_total}
use Rattle.link_change.proofs.MapLemmas.{all_entries, sum_none}
use Rattle.addr4.specs.Prefixes.{AddressPrefix}
use Rattle.nexthop_resolver.specs.declared.rows.Metric.{Metric}
use Rattle.nexthop_resolver.specs.Kept.{route_hop}
use Rattle.nexthop_resolver.specs.Left.{is_busy, hop_lags}
use Rattle.nexthop_resolver.proofs.LeftLemmas.{none_left_without_work}
use Rattle.nexthop_resolver.specs.Resolving.{Resolving}
use Rattle.hop_side.specs.Resolvers.{Resolvers, PeerRows, same_metric, lags_by, hop_holds_up, busy_by, has_hop_work, Beyonds, left_of, left_in}
use Rattle.hop_side.specs.Tasks.{first_of, first_lagging}
use Rattle.hop_side.proofs.PutLemmas.{by_bool}

abbrev Entries : Type 0
Entries = List (ℕ × Resolving Metric)

-- each entry tells of its peer
pub entries_work : (a : Resolvers) → AllByRecursion (λ e. has_hop_work a e.0 ≡ is_busy same_metric e.1) (tables.entries a)
entries_work a = all_entries nat_cmp_total (λ k s. has_hop_work a k ≡ is_busy same_metric s) a (λ k s at. ap busy_by at)

-- the first entry of which something holds, where of its peer the same holds
first_such : (W : ℕ → Bool) (E : ℕ × Resolving Metric → Bool) (first : Entries → Option ℕ) → first [] ≡ None
    → ((e : ℕ × Resolving Metric) (es : Entries) → first (e ∷ es) ≡ cond (E e) (Some e.0) (first es))
    → (es : Entries) → AllByRecursion (λ e. W e.0 ≡ E e) es → find W (keys_of es) ≡ first es
first_such W E first none some [] all = sym none
first_such W E first none some (e ∷ es) all = ap (λ (b : Bool). cond b (Some e.0) (find W (keys_of es))) all.0
    ∙ ap (λ (o : Option ℕ). cond (E e) (Some e.0) o) (first_such W E first none some es all.1) ∙ sym (some e es)

-- whether an entry holds up a prefix, each of its peer
abbrev lags_at : PeerRows → AddressPrefix → ℕ × Resolving Metric → Bool
lags_at uppers p e = hop_lags same_metric e.1 p (option_map route_hop (uppers e.0 p))

entries_lag : (uppers : PeerRows) (p : AddressPrefix) (a : Resolvers) → AllByRecursion (λ e. hop_holds_up a e.0 p (option_map route_hop (uppers e.0 p)) ≡ lags_at uppers p e) (tables.entries a)
entries_lag uppers p a = all_entries nat_cmp_total (λ k s. hop_holds_up a k p (option_map route_hop (uppers k p)) ≡ hop_lags same_metric s p (option_map route_hop (uppers k p))) a
    (λ k s at. ap (λ (o : Option (Resolving Metric)). lags_by o p (option_map route_hop (uppers k p))) at)

pub first_that_lags : (uppers : PeerRows) (p : AddressPrefix) (a : Resolvers) (es : Entries) → es ≡ tables.entries a
    → first_lagging uppers p es ≡ find (λ k. hop_holds_up a k p (option_map route_hop (uppers k p))) (tables.keys a)
first_that_lags uppers p a es is = ap (first_lagging uppers p) is
    ∙ sym (first_such (λ k. hop_holds_up a k p (option_map route_hop (uppers k p))) (lags_at uppers p) (first_lagging uppers p) refl (λ e es. refl) (tables.entries a) (entries_lag uppers p a))

pub first_with_work : (a : Resolvers) (es : Entries) → es ≡ tables.entries a → first_of es ≡ find (has_hop_work a) (tables.keys a)
first_with_work a es is = ap first_of is ∙ sym (first_such (has_hop_work a) (λ e. is_busy same_metric e.1) first_of refl (λ e es. refl) (tables.entries a) (entries_work a))

all_idle : (es : Entries) → first_of es ≡ None → AllByRecursion (λ e. is_busy same_metric e.1 ≡ false) es
all_idle [] e = tt
all_idle (x ∷ es) e = by_bool (is_busy same_metric x.1) (λ b. cond b (Some x.0) (first_of es) ≡ None → (b ≡ false) × AllByRecursion (λ e. is_busy same_metric e.1 ≡ false) es)
    (λ _ some. absurd (cc)) (λ off none. (refl, all_idle es none)) e

pub idle_sum : (beyonds : Beyonds) (es : Entries) → AllByRecursion (λ e. is_busy same_metric e.1 ≡ false) es → sum_by (left_of beyonds) (values_of es) ≡ 0
idle_sum beyonds es all = sum_none (left_of beyonds) (values_of es) (each es all)
  where
    each : (es : Entries) → AllByRecursion (λ e. is_busy same_metric e.1 ≡ false) es → AllByRecursion (λ s. left_of beyonds s ≡ 0) (values_of es)
    each [] all = tt
    each (x ∷ es) all = ((none_left_without_work same_metric (beyonds x.1.client) x.1).0 all.0, each es all.1)

pub none_left : (a : Resolvers) (es : Entries) (first : Option ℕ) → es ≡ tables.entries a → first ≡ first_of es → IfNone first ((beyonds : Beyonds) → left_in beyonds a ≡ 0)
none_left a es None is e = λ beyonds. ap (λ (l : Entries). sum_by (left_of beyonds) (values_of l)) (sym is) ∙ idle_sum beyonds es (all_idle es (sym e))
none_left a es (Some k) is e = tt
