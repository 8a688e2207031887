use Rattle.std.proofs.Common.{arith}
use Rattle.tree_canon.proofs.PartLemmas.{file_is, folder_is, writes_one}
use Rattle.tree_canon.proofs.parts.write_node.Goals as goal

pub returns-in_ok-push-in-Folder : goal.returns-in_ok-push-in-Folder
returns-in_ok-push-in-Folder c = writes_one _ _ _ _ _ _ _ c.in_ok-push-in-Folder.ensures.items
    c.in_ok-put_folder_head-in-Folder.ensures
    (folder_is _ c.in-Folder.all _ _ c.in-Folder.is c.as_slice.ensures c.as_slice-in-Folder.ensures) (omega arith)

pub returns-in_ok-push-in-File : goal.returns-in_ok-push-in-File
returns-in_ok-push-in-File c = writes_one _ _ _ _ _ _ _ c.in_ok-push-in-File.ensures.items
    c.in_ok-put_file_head-in-File.ensures
    (file_is _ c.in-File.exec c.in-File.bytes _ _ c.in-File.is c.as_slice-in-File.ensures c.as_slice-in-File-2.ensures)
    (omega arith)
