-- The descriptor of a buildpack that is built (buildpack.md, "buildpack.toml (TOML)").
use Rattle.std.specs.Prelude.{ℕ, Bool, List, Option, Some, None, Result, Ok, Err, codes}
use Rattle.cnb_toml.specs.declared.fault.DocFault.TheVariants.{Absent, Wrong}
use Rattle.bp_docs.specs.Descriptor.{descriptor_in}
use Rattle.bp_docs.specs.declared.descriptor.Body.{Body}
use Rattle.bp_docs.specs.declared.descriptor.Body.TheVariants.{Component, Composite, Foreign}
use Rattle.steps.specs.Outside.{Seen}
use Rattle.steps.specs.Results as results
use Rattle.steps.specs.Steps.{◌>>=◌, gives}
use Rattle.cnb_build.specs.declared.fault.BuildFault.{BuildFault}
use Rattle.cnb_build.specs.declared.fault.BuildFault.TheVariants.{Api, Document}
use Rattle.cnb_build.specs.Reading.{reads_document, value_at}
use Rattle.cnb_build.specs.Refusals.{cause_of}

-- whether a component clears the platform's variables; nothing else is built
abbrev pub clears_of : List ℕ → Body → Result Bool BuildFault
clears_of path (Component clear_env targets) = Ok clear_env
clears_of path (Composite order) = Err (Document path (Wrong (codes "order")))
clears_of path (Foreign api) = Err (Api api)

-- the descriptor must be there
abbrev pub clears_in : List ℕ → Option (List ℕ) → Result Bool BuildFault
clears_in path None = Err (Document path Absent)
clears_in path (Some bytes) = results.and_then (value_at path (descriptor_in bytes))
    (λ descriptor. clears_of path descriptor.body)

unfoldable pub reads_descriptor : List ℕ → Seen → Result Bool BuildFault → Seen → Type 0
reads_descriptor path = do
  found ← reads_document path
  gives cause_of (clears_in path found)
