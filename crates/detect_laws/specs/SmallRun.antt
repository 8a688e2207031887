-- A small detection: its options, and what is seen of the outside before and after it.
use Rattle.std.specs.Prelude.{false, pos, List, [], ◌∷◌, codes, Some, None}
use Rattle.cnb_detect.specs.Preparation.{frame_of}
use Rattle.cnb_detect.specs.declared.preparation.Prepared.{Prepared}
use Rattle.cnb_words.specs.declared.choice.ChoiceWords.{ChoiceWords}
use Rattle.cnb_world.specs.Runs.{Ran}
use Rattle.detect_core.specs.Job.{detect_job}
use Rattle.order_expand.specs.declared.member.Member.{Member}
use Rattle.steps.specs.Outside.{Outside, Seen}
use Rattle.detect_laws.specs.Small.{small_buildpack, small_files, small_order}

abbrev pub small_options : ChoiceWords
small_options = record {
  order = codes "/o";
  buildpacks = codes "/b";
  app = codes "/a";
  platform = codes "/p";
  work = codes "/w";
  workers = 1;
}

-- what it is made of
abbrev pub small_prepared : Prepared
small_prepared = record {
  order = small_order;
  catalog = small_buildpack ∷ [];
  frame = frame_of small_options [] None [];
}

abbrev pub small_member : Member
small_member = record { key = small_buildpack.key; optional = false; clear_env = false; targets = [] }

-- its child, which ended with the code 100, and so says that the buildpack isn't for the app
abbrev pub small_ran : Ran
small_ran = record {
  job = detect_job small_prepared.frame small_member;
  probed = record { code = Some (pos 100); plan = [] };
}

abbrev pub small_world : Seen
small_world = record {
  files = Some small_files;
  runs = [];
  file_faults = 0;
  failed_at = None;
  child_faults = 0;
  misused = 0;
}

-- one spawner that ran these children
abbrev pub small_outside : List Ran → Outside
small_outside rans = record {
  world = small_world;
  spawners = record { runs = rans; says = None; faults = 0 } ∷ [];
}
