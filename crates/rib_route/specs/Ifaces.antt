-- Names of interfaces.
use Rattle.std.specs.Prelude.{◌≡◌, ℕ, ◌-◌, Bool, true, ◌&&◌, ◌||◌, List, ◌++◌, length, take, replicate, Option, Some, None, nat_le, ◌==◌, if◌then◌else◌}
use Rattle.std.specs.List.{list_all}

-- a lower-case letter, a digit, `-`, `.` or `_`
abbrev pub is_name_byte : ℕ → Bool
is_name_byte b = (nat_le 97 b && nat_le b 122) || (nat_le 48 b && nat_le b 57) || b == 45 || b == 46 || b == 95

-- 1 to 15 of them
abbrev pub is_iface_name : List ℕ → Bool
is_iface_name text = nat_le 1 (length text) && nat_le (length text) 15 && list_all is_name_byte text

-- the name that a text is
abbrev pub iface_of : List ℕ → Option (List ℕ)
iface_of text = if is_iface_name text then Some text else None

-- as 15 bytes, zeros behind the name
abbrev pub padded : List ℕ → List ℕ
padded name = name ++ replicate (15 - length name) 0

-- the first bytes are a name, and the others zeros
pub record IsKept (bytes : List ℕ) (len : ℕ) : Type 0 where
  pub name : is_iface_name (take len bytes) ≡ true
  pub fits : length (take len bytes) ≡ len
  pub rest : padded (take len bytes) ≡ bytes
