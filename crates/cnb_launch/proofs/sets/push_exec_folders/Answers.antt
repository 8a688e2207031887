use Rattle.cnb_launch.proofs.FolderLemmas.{exec_folder_short, pushed_within, type_folder_short}
use Rattle.cnb_launch.proofs.sets.push_exec_folders.Goals as goal

pub returns-in_ok-push-in-Some-2-clause-within : goal.returns-in_ok-push-in-Some-2-clause-within
returns-in_ok-push-in-Some-2-clause-within c =
    λ h. pushed_within 8448 _ _ _ c.in_ok-push-in-Some-2.ensures.ok
    (type_folder_short c.args.layer.now _ _ _ _ c.in_ok-folder.ensures.0 c.in_ok-of_type-in-Some.ensures.0
    c.as_str.ensures.is_type c.as_str.ensures.text c.requires)
    (pushed_within 8448 _ _ _ c.in_ok-push-in-Some.ensures.ok
    (exec_folder_short c.args.layer.now _ c.in_ok-folder.ensures.0 c.requires) h)
