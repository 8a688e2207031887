-- What the options that a group is chosen by ask for (platform.md, "detector").
use Rattle.std.specs.Prelude.{List, codes, Option, Some, ◌≤◌, length}
use Rattle.cnb_words.specs.OptionValues.{◌>>=◌, path_of, workers_of}
use Rattle.cnb_words.specs.declared.options.Given.{Given}
use Rattle.cnb_words.specs.declared.choice.ChoiceWords.{ChoiceWords}

-- what the options ask for, where each that must be given is
abbrev pub choice_values : List Given → Option ChoiceWords
choice_values options = do
  order ← path_of (codes "--order") options
  buildpacks ← path_of (codes "--buildpacks") options
  app ← path_of (codes "--app") options
  platform ← path_of (codes "--platform") options
  work ← path_of (codes "--work") options
  workers ← workers_of options
  Some (record {
    order = order;
    buildpacks = buildpacks;
    app = app;
    platform = platform;
    work = work;
    workers =
        workers;
  })

-- paths of at most 4,096 bytes, and 1 to 64 workers
pub record KeepsLimits (words : ChoiceWords) : Type 0 where
  pub order : length words.order ≤ 4096
  pub buildpacks : length words.buildpacks ≤ 4096
  pub app : length words.app ≤ 4096
  pub platform : length words.platform ≤ 4096
  pub work : length words.work ≤ 4096
  pub at_least_one_worker : 1 ≤ words.workers
  pub at_most_64_workers : words.workers ≤ 64
