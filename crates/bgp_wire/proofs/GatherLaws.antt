-- A loop that gathers attributes.
use Rattle.std.proofs.Common.{◌≡◌, ℕ, ◌<◌, Bool, true, false, List, [], ◌∷◌, ◌++◌, length, Some, None, Result, Ok, Err, refl}
use Rattle.bgp_attr.specs.declared.speaker.Profile.{Profile}
use Rattle.bgp_wire.specs.declared.gathered.Gathered.{Gathered}
use Rattle.bgp_wire.specs.declared.notice.Notice.{Notice}
use Rattle.bgp_wire.specs.declared.notice.Refusal.{Refusal}
use Rattle.bgp_wire.specs.Faults.{notice, Fails, Refuses}
use Rattle.bgp_wire.specs.Attributes.{Attribute, Kept, attribute_at, attributes_at}
use Rattle.bgp_wire.specs.Found.{added, IsGathered, GathersOne, RefusesOne, IsGatheredTo}
use Rattle.bgp_wire.proofs.AttributeLoops.{with_kept, goes_on, refuses, runs_out, withdrawn_out, refused_out, ends}

-- what was gathered, and what is still to be
pub record IsGatheredSo (p : Profile) (external : Bool) (bytes rest : List ℕ) (g : Gathered) : Type 0 where
  pub seen : List ℕ
  pub kept : Kept
  pub is : IsGathered p seen kept g
  pub so_far : with_kept kept (attributes_at p external seen rest) ≡ attributes_at p external [] bytes

begins : (read : Result Kept Notice) → with_kept ([], false) read ≡ read
begins (Ok k) = refl
begins (Err n) = refl

pub starts : (p : Profile) (external : Bool) (bytes : List ℕ) (g : Gathered) → ((p : Profile) → IsGathered p [] ([], false) g) → IsGatheredSo p external bytes bytes g
starts p external bytes g is = record { seen = []; kept = ([], false); is = is p; so_far = begins (attributes_at p external [] bytes) }

-- an attribute that runs beyond the end
pub stops_refused : (p : Profile) (external : Bool) (bytes rest : List ℕ) (g : Gathered) (e : Refusal) → 0 < length rest → None ≡ attribute_at rest → p.revised ≡ false → Refuses e (notice 3 1 []) → IsGatheredSo p external bytes rest g → Fails e (attributes_at p external [] bytes)
stops_refused p external bytes rest g e some at revised refuses s = refused_out p.revised s.kept (attributes_at p external [] bytes) e revised refuses (runs_out p external s.seen rest s.kept (attributes_at p external [] bytes) some at s.so_far)

pub stops_withdrawn : (p : Profile) (external : Bool) (bytes rest : List ℕ) (g : Gathered) → 0 < length rest → None ≡ attribute_at rest → p.revised ≡ true → IsGatheredSo p external bytes rest g → IsGatheredTo p external bytes (Ok (record g { withdraw = true }))
stops_withdrawn p external bytes rest g some at revised s =
    ((s.kept.0, true), withdrawn_out p.revised s.kept (attributes_at p external [] bytes) revised (runs_out p external s.seen rest s.kept (attributes_at p external [] bytes) some at s.so_far), s.is.found, refl)

pub fails_at : (p : Profile) (external : Bool) (bytes rest after : List ℕ) (g : Gathered) (a : Attribute) (e : Refusal) → 0 < length rest → Some (a, after) ≡ attribute_at rest → RefusesOne p external a g e → IsGatheredSo p external bytes rest g → Fails e (attributes_at p external [] bytes)
fails_at p external bytes rest after g a e some at fails s = refuses e p external s.seen rest s.kept (a, after) (attributes_at p external [] bytes) some at (fails s.seen s.kept s.is) s.so_far

pub goes : (p : Profile) (external : Bool) (bytes rest after : List ℕ) (old new : Gathered) (a : Attribute) → 0 < length rest → Some (a, after) ≡ attribute_at rest → GathersOne p external a old new → IsGatheredSo p external bytes rest old → IsGatheredSo p external bytes after new
goes p external bytes rest after old new a some at gathers s =
    let one = gathers s.seen s.kept s.is in
    record { seen = s.seen ++ a.kind ∷ []; kept = added one.0 a s.kept; is = one.2; so_far = goes_on p external s.seen rest s.kept (a, after) one.0 (attributes_at p external [] bytes) some at one.1 s.so_far }

pub gathered_all : (p : Profile) (external : Bool) (bytes rest : List ℕ) (g : Gathered) → length rest ≡ 0 → IsGatheredSo p external bytes rest g → IsGatheredTo p external bytes (Ok g)
gathered_all p external bytes rest g none s = (s.kept, ends p external s.seen rest s.kept (attributes_at p external [] bytes) none s.so_far, s.is.found, s.is.withdraw)
