-- What sources and sinks in memory are seen as.
use Rattle.std.specs.Prelude.{ℕ, ◌+◌, ◌-◌, ◌^◌, Bool, List, min, nat_eq}
use Rattle.std.specs.List.{list_any}

-- a source: the bytes that are left, the numbers of the calls that are to fail, and how many calls and faults there were
pub record Supply : Type 0 where
  pub left : List ℕ
  pub to_fail : List ℕ
  pub calls : ℕ
  pub faults : ℕ

-- a sink: the bytes that were taken, the numbers of the calls that are to fail, and how many calls and faults there were
pub record Store : Type 0 where
  pub taken : List ℕ
  pub to_fail : List ℕ
  pub calls : ℕ
  pub faults : ℕ

-- a count, one higher; it stands at its type's end
abbrev pub counted : ℕ → ℕ
counted n = min (n + 1) (2 ^ 64 - 1)

-- the call after so many is one of those that are to fail
abbrev pub is_to_fail : List ℕ → ℕ → Bool
is_to_fail to_fail calls = list_any (λ n. nat_eq n (counted calls)) to_fail
