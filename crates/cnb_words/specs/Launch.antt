-- What the words of `launch` ask for (platform.md, "launcher", and own).
use Rattle.std.specs.Prelude.{ℕ, ◌≤◌, IsTrue, List, [], ◌∷◌, codes, length, if◌then◌else◌, Option, Some, None}
use Rattle.std.specs.Str.{bytes_eq}
use Rattle.cnb_toml.specs.Names.{is_process_type}
use Rattle.cnb_words.specs.OptionValues.{◌>>=◌}
use Rattle.cnb_words.specs.Values.{path_in}
use Rattle.cnb_words.specs.declared.launch.Call.{Call}
use Rattle.cnb_words.specs.declared.launch.Call.TheVariants.{Entry, Words, Direct}
use Rattle.cnb_words.specs.declared.launch.LaunchWords.{LaunchWords}

-- a command as it is, of at least one word
abbrev pub direct_call : List (List ℕ) → Option Call
direct_call [] = None
direct_call (word ∷ words) = Some (Direct (word ∷ words))

-- `--` in front of a command, or the words as they are
abbrev pub call_in : List (List ℕ) → Option Call
call_in [] = Some (Words [])
call_in (first ∷ rest) = if bytes_eq first (codes "--") then direct_call rest else Some (Words (first ∷ rest))

-- what is to be launched in a root
abbrev pub launch_at : List ℕ → List (List ℕ) → Option LaunchWords
launch_at root words = do
  place ← path_in root
  call ← call_in words
  Some (record { root = place; call = call })

abbrev pub launch_in_root : List (List ℕ) → Option LaunchWords
launch_in_root [] = None
launch_in_root (root ∷ words) = launch_at root words

-- `--root` with a path in front, where it is a word of its own; else the root is `/`
abbrev pub launch_in : List (List ℕ) → Option LaunchWords
launch_in [] = launch_at (codes "/") []
launch_in (first ∷ rest) = if bytes_eq first (codes "--root") then launch_in_root rest else launch_at (codes "/")
    (first ∷ rest)

-- the process of a type, with arguments
abbrev pub process_at : List ℕ → List ℕ → List (List ℕ) → Option LaunchWords
process_at root kind args = do
  place ← path_in root
  Some (record { root = place; call = Entry kind args })

-- a type of a process, or a command of at least one word
abbrev pub IsCall : Call → Type 0
IsCall (Entry kind args) = IsTrue (is_process_type kind)
IsCall (Words words) = Unit {0}
IsCall (Direct words) = 1 ≤ length words

-- a root of at most 4,096 bytes
pub record KeepsLimits (words : LaunchWords) : Type 0 where
  pub root : length words.root ≤ 4096
  pub call : IsCall words.call
