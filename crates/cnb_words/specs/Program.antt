-- The program's own word (platform.md, "launcher").
use Rattle.std.specs.Prelude.{ℕ, ◌&&◌, ◌||◌, ◌+◌, Bool, List, codes, drop, length, nat_eq, if◌then◌else◌, Option, Some}
use Rattle.std.specs.Prelude.{None}
use Rattle.std.specs.List.{ends_with}
use Rattle.std.specs.Str.{bytes_eq}
use Rattle.cnb_toml.specs.Names.{is_process_type}
use Rattle.cnb_world.specs.Path.{is_short_path, parent_of}

-- the part of a path behind its folder, where that isn't `/`
abbrev pub last_part : List ℕ → List ℕ
last_part path = drop (length (parent_of path) + 1) path

-- `/cnb/process/<type>`, in any root
abbrev pub is_process_path : List ℕ → Bool
is_process_path path = is_short_path path && ends_with nat_eq (parent_of path) (codes "/cnb/process")
    && is_process_type (last_part path)

-- the program is started as the launcher, `/cnb/lifecycle/launcher` in any root
abbrev pub is_launcher : List ℕ → Bool
is_launcher program = bytes_eq program (codes "launcher")
    || (is_short_path program && ends_with nat_eq program (codes "/cnb/lifecycle/launcher"))

-- the process that the program is started as
abbrev pub process_type : List ℕ → Option (List ℕ)
process_type program = if is_process_path program then Some (last_part program) else None

-- what stands in front of `/cnb/process/<type>` or `/cnb/lifecycle/launcher`: `/` where that is nothing
abbrev pub root_of : List ℕ → List ℕ
root_of program = parent_of (parent_of (parent_of program))
