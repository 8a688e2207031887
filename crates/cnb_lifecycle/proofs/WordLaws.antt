-- The folders that the words of `detect`, `restore`, `create`, `base` and `export` name are paths, and a record may be
-- written at its path.
use Rattle.std.proofs.Common.{◌≡◌, refl, subst, ℕ, Bool, true, false, List, [], ◌∷◌, length, codes, Option, Some, None}
use Rattle.std.proofs.Common.{Result, Ok, Err}
use Rattle.std.specs.Prelude.{IfSome, IsTrue, if◌then◌else◌, nat_le, option_and_then}
use Rattle.std.specs.Option.{option_map}
use Rattle.std.specs.Str.{bytes_eq}
use Rattle.std.proofs.lemmas.Bool.{and_parts}
use Rattle.cnb_toml.specs.Names.{is_image_name}
use Rattle.cnb_world.specs.Path.{is_path, is_short_path}
use Rattle.cnb_world.specs.declared.env.Variable.{Variable}
use Rattle.cnb_words.specs.Analyze as analyze
use Rattle.cnb_words.specs.Base as base
use Rattle.cnb_words.specs.Build as build
use Rattle.cnb_words.specs.Check as check
use Rattle.cnb_words.specs.Choice.{choice_values}
use Rattle.cnb_words.specs.Create as create
use Rattle.cnb_words.specs.Detect as detect
use Rattle.cnb_words.specs.Drill as drill
use Rattle.cnb_words.specs.Export as export
use Rattle.cnb_words.specs.Launch as launch
use Rattle.cnb_words.specs.Options.{options_in, value_of}
use Rattle.cnb_words.specs.OptionValues.{◌>>=◌, caches_of, image_of, path_of, target_of, trees_of, workers_of}
use Rattle.cnb_words.specs.Program.{is_launcher, process_type, root_of}
use Rattle.cnb_words.specs.Prune as prune
use Rattle.cnb_words.specs.Rebase as rebase
use Rattle.cnb_words.specs.RecordPath.{is_record_path, record_of, where_asked, where_free}
use Rattle.cnb_words.specs.Restore as restore
use Rattle.cnb_words.specs.Show as show
use Rattle.cnb_words.specs.Unpack as unpack
use Rattle.cnb_words.specs.Values.{image_in, path_in}
use Rattle.cnb_words.specs.Verify as verify
use Rattle.cnb_words.specs.Words.{asked_by, asks, command_asked, options_asked, phase_asked, unless_process}
use Rattle.cnb_words.specs.Words.{with_options}
use Rattle.cnb_words.specs.declared.fault.WordsFault.{WordsFault}
use Rattle.cnb_words.specs.declared.fault.WordsFault.TheVariants.{Usage}
use Rattle.cnb_words.specs.declared.words.Asked.{Asked}
use Rattle.cnb_words.specs.declared.words.Asked.TheVariants.{Detect, Analyze, Restore, Build, Export, Create, Rebase}
use Rattle.cnb_words.specs.declared.words.Asked.TheVariants.{Base, Unpack, Show, Prune, Verify, Check, Drill, Launch}
use Rattle.cnb_lifecycle.specs.declared.refusal.Refusal.{Refusal}
use Rattle.cnb_lifecycle.specs.Commands.{On, asked_of, command_in, of_words, platform_api, where_served}

-- the work folder, and where the record of a detection may be written; the store, and the name of an image; the layers
-- folder
abbrev pub HasPaths : Asked → Type 0
HasPaths (Detect options) = (is_path options.choice.work ≡ true)
    × IfSome options.proof_path (λ path. IsTrue (is_record_path options.choice.work path))
HasPaths (Create options) = (is_path options.detect.work ≡ true) × (is_path options.layers ≡ true)
HasPaths (Base options) = IsTrue (is_short_path options.store) × IsTrue (is_image_name options.run)
HasPaths (Export options) = IsTrue (is_short_path options.store) × IsTrue (is_image_name options.image)
    × (is_path options.layers ≡ true)
HasPaths (Restore options) = IsTrue (is_short_path options.layers)
HasPaths asked = Unit {0}

-- ---- options

then_so : {A B : Type 0} (o : Option A) (next : A → Option B) (P : B → Type 0)
    → ((a : A) → o ≡ Some a → On (next a) P) → On (o >>= next) P
then_so None next P h = tt
then_so (Some a) next P h = h a refl

abbrev IsPath : List ℕ → Type 0
IsPath path = is_path path ≡ true

path_so : (o : Option (List ℕ)) → On (option_and_then path_in o) IsPath
path_so None = tt
path_so (Some text) = by (is_short_path text) refl
  where
    by : (short : Bool) → is_short_path text ≡ short → On (if short then Some text else None) IsPath
    by true is = (and_parts (nat_le (length text) 4096) (is_path text) is).1
    by false is = tt

short_so : (o : Option (List ℕ)) → On (option_and_then path_in o) (λ path. IsTrue (is_short_path path))
short_so None = tt
short_so (Some text) = by (is_short_path text) refl
  where
    by : (short : Bool) → is_short_path text ≡ short → On (if short then Some text else None)
        (λ path. IsTrue (is_short_path path))
    by true is = is
    by false is = tt

name_so : (o : Option (List ℕ)) → On (option_and_then image_in o) (λ name. IsTrue (is_image_name name))
name_so None = tt
name_so (Some text) = by (is_image_name text) refl
  where
    by : (fits : Bool) → is_image_name text ≡ fits → On (if fits then Some text else None)
        (λ name. IsTrue (is_image_name name))
    by true is = is
    by false is = tt

free_so : (work : List ℕ) (o : Option (List ℕ)) → On (where_asked work o)
    (λ record_path. IfSome record_path (λ path. IsTrue (is_record_path work path)))
free_so work None = tt
free_so work (Some text) = found (path_in text)
  where
    by : (path : List ℕ) (free : Bool) → is_record_path work path ≡ free
        → On (option_map Some (if free then Some path else None))
        (λ record_path. IfSome record_path (λ path. IsTrue (is_record_path work path)))
    by path true is = is
    by path false is = tt

    found : (o : Option (List ℕ)) → On (option_map Some (option_and_then (where_free work) o))
        (λ record_path. IfSome record_path (λ path. IsTrue (is_record_path work path)))
    found None = tt
    found (Some path) = by path (is_record_path work path) refl

of_some : {A : Type 0} (o : Option A) (a : A) (P : A → Type 0) → On o P → o ≡ Some a → P a
of_some o a P h is = let at : On (Some a) P = subst (λ o. On o P) is h in at

-- ---- words

abbrev HoldsOf : Result Asked WordsFault → Type 0
HoldsOf (Ok asked) = HasPaths asked
HoldsOf (Err fault) = Unit {0}

record Holds (asked : Result Asked WordsFault) : Type 0 where
  path : HoldsOf asked

refused : (fault : WordsFault) → Holds (Err fault)
refused fault = record { path = tt }

asks_so : {T : Type 0} (command : T → Asked) (o : Option T) → On o (λ words. HasPaths (command words))
    → Holds (asks command o)
asks_so command None h = refused _
asks_so command (Some words) h = record { path = h }

asks_any : {T : Type 0} (command : T → Asked) (o : Option T) → ((words : T) → HasPaths (command words))
    → Holds (asks command o)
asks_any command None h = refused _
asks_any command (Some words) h = record { path = h words }

either_so : (b : Bool) (one other : Result Asked WordsFault) → Holds one → Holds other
    → Holds (if b then one else other)
either_so true one other h k = h
either_so false one other h k = k

options_so : (command : List ℕ) (words : List (List ℕ)) → Holds (options_asked command words)
options_so command words = elim (options_in words) as (λ o. Holds (with_options o (phase_asked command))) [
  | None ↦ refused Usage
  | Some options ↦
      let path : (name : List ℕ) → On (path_of name options) IsPath = λ name. path_so (value_of name options) in
      let chosen : On (choice_values options) (λ choice. IsPath choice.work) =
      then_so (path_of (codes "--order") options) _ _
      (λ order i. then_so (path_of (codes "--buildpacks") options) _ _
      (λ buildpacks j. then_so (path_of (codes "--app") options) _ _
      (λ app k. then_so (path_of (codes "--platform") options) _ _
      (λ platform l. then_so (path_of (codes "--work") options) _ _
      (λ work is. then_so (workers_of options) _ _ (λ workers m. of_some
      (path_of (codes "--work") options) work IsPath (path (codes "--work")) is))))))
      in
      either_so (bytes_eq command (codes "detect")) _ _
      (asks_so Detect (detect.detect_in options)
      (then_so _ (λ checked. detect.detect_values options) _
      (λ checked i. then_so (choice_values options) _ _
      (λ choice j. then_so (record_of choice.work options) _ _
      (λ record_path is. (
        of_some (choice_values options) choice (λ c. IsPath c.work) chosen j,
        of_some (record_of choice.work options) record_path
            (λ r. IfSome r (λ p. IsTrue (is_record_path choice.work p)))
            (free_so choice.work (value_of (codes "--record") options)) is,
      ))))))
      (either_so (bytes_eq command (codes "analyze")) _ _ (asks_any Analyze (analyze.analyze_in options) (λ words. tt))
      (either_so (bytes_eq command (codes "restore")) _ _
      (asks_so Restore (restore.restore_in options)
      (then_so _ (λ checked. restore.restore_values options) _
      (λ checked i. then_so (path_of (codes "--store") options) _ _
      (λ store j. then_so (path_of (codes "--work") options) _ _
      (λ work k. then_so (path_of (codes "--layers") options) _ _
      (λ layers is. then_so (caches_of options) _ _
      (λ caches l. of_some (path_of (codes "--layers") options) layers (λ path. IsTrue (is_short_path path))
      (short_so (value_of (codes "--layers") options)) is)))))))
      (either_so (bytes_eq command (codes "build")) _ _ (asks_any Build (build.build_in options) (λ words. tt))
      (either_so (bytes_eq command (codes "export")) _ _
      (asks_so Export (export.export_in options)
      (then_so _ (λ checked. export.export_values options) _
      (λ checked i. then_so (path_of (codes "--store") options) _ _
      (λ store is. then_so (path_of (codes "--work") options) _ _
      (λ work j. then_so (path_of (codes "--layers") options) _ _
      (λ layers at. then_so (path_of (codes "--app") options) _ _
      (λ app k. then_so (path_of (codes "--launcher") options) _ _
      (λ launcher l. then_so (image_of (codes "--image") options) _ _
      (λ image named. then_so (caches_of options) _ _
      (λ caches m. (
        of_some (path_of (codes "--store") options) store (λ path. IsTrue (is_short_path path))
            (short_so (value_of (codes "--store") options)) is,
        of_some (image_of (codes "--image") options) image (λ name. IsTrue (is_image_name name))
            (name_so (value_of (codes "--image") options)) named,
        of_some (path_of (codes "--layers") options) layers IsPath (path (codes "--layers")) at,
      )))))))))))
      (either_so (bytes_eq command (codes "create")) _ _
      (asks_so Create (create.create_in options)
      (then_so _ (λ checked. create.create_values options) _
      (λ checked i. then_so (choice_values options) _ _
      (λ choice j. then_so (path_of (codes "--layers") options) _ _
      (λ layers is. then_so (create.image_options options) _ _
      (λ image k. (
        of_some (choice_values options) choice (λ c. IsPath c.work) chosen j,
        of_some
            (path_of (codes "--layers") options) layers IsPath (path (codes "--layers")) is,
      )))))))
      (either_so (bytes_eq command (codes "rebase")) _ _ (asks_any Rebase (rebase.rebase_in options) (λ words. tt))
      (either_so (bytes_eq command (codes "base")) _ _
      (asks_so Base (base.base_in options)
      (then_so _ (λ checked. base.base_values options) _
      (λ checked i. then_so (path_of (codes "--store") options) _ _
      (λ store is. then_so (image_of (codes "--run") options) _ _
      (λ run named. then_so (target_of (codes "--os") options) _ _
      (λ os j. then_so (target_of (codes "--arch") options) _ _
      (λ arch k. then_so (trees_of options) _ _
      (λ trees l. (
        of_some (path_of (codes "--store") options) store (λ path. IsTrue (is_short_path path))
            (short_so (value_of (codes "--store") options)) is,
        of_some (image_of (codes "--run") options) run
            (λ name. IsTrue (is_image_name name)) (name_so (value_of (codes "--run") options)) named,
      )))))))))
      (either_so (bytes_eq command (codes "unpack")) _ _ (asks_any Unpack (unpack.unpack_in options) (λ words. tt))
      (either_so (bytes_eq command (codes "show")) _ _ (asks_any Show (show.show_in options) (λ words. tt))
      (either_so (bytes_eq command (codes "prune")) _ _ (asks_any Prune (prune.prune_in options) (λ words. tt))
      (either_so (bytes_eq command (codes "verify")) _ _ (asks_any Verify (verify.verify_in options) (λ words. tt))
      (either_so (bytes_eq command (codes "check")) _ _ (asks_any Check (check.check_in options) (λ words. tt))
      (refused Usage)))))))))))))
]

command_so : (words : List (List ℕ)) → Holds (command_asked words)
command_so [] = refused Usage
command_so (command ∷ words) =
    either_so (bytes_eq command (codes "launch")) _ _ (asks_any Launch (launch.launch_in words) (λ words. tt))
    (either_so (bytes_eq command (codes "drill")) _ _ (asks_any Drill (drill.drill_in words) (λ words. tt))
    (options_so command words))

process_so : (kind : Option (List ℕ)) (root : List ℕ) (words : List (List ℕ)) → Holds (unless_process kind root words)
process_so None root words = command_so words
process_so (Some kind) root words = asks_any Launch (launch.process_at root kind words) (λ words. tt)

words_so : (words : List (List ℕ)) → Holds (asked_by words)
words_so [] = refused Usage
words_so (program ∷ words) =
    either_so (is_launcher program) _ _ (asks_any Launch (launch.launch_at (root_of program) words) (λ words. tt))
    (process_so (process_type program) (root_of program) words)

served_so : (asked : Result Asked WordsFault) (served : Result (Unit {0}) Refusal) → Holds asked
    → On (asked_of (where_served (of_words asked) served)) HasPaths
served_so (Ok asked) (Ok done) h = h.path
served_so (Ok asked) (Err refusal) h = tt
served_so (Err fault) served h = tt

pub has_paths : (words : List (List ℕ)) (env : List Variable) → On (asked_of (command_in words env)) HasPaths
unfolding command_in
has_paths words env = served_so (asked_by words) (platform_api env) (words_so words)
