-- The environment of a build, by what the layers gave.
use Rattle.std.proofs.Common.{◌≡◌, ◌∙◌, sym, ap, subst, ℕ, List, Option, Some, None, Ok, Err}
use Rattle.std.specs.Prelude.{IfSome}
use Rattle.cnb_world.specs.Tree.{Tree}
use Rattle.cnb_world.specs.declared.env.Variable.{Variable}
use Rattle.steps.proofs.ReadingLaws.{refused_where}
use Rattle.steps.specs.Causes.{IsAnswer}
use Rattle.steps.specs.Results.{◌>>=◌}
use Rattle.doc_files.specs.Faults.{read_cause}
use Rattle.doc_files.specs.declared.fault.ReadFault.{ReadFault}
use Rattle.cnb_env.specs.Layers.{build_env, each, launch_env, set_applied, with_paths, with_platform}
use Rattle.cnb_env.specs.declared.files.EnvFile.{EnvFile}
use Rattle.cnb_env.specs.declared.layers.Phase.{Phase}
use Rattle.cnb_env.specs.declared.layers.Phase.TheVariants.{Build, Launch}
use Rattle.cnb_env.specs.declared.paths.When.{When}
use Rattle.cnb_env.proofs.EachLemmas.{Applied}

-- what is read of the same layers
pub same_layers : (o : Option Tree) (result : Applied) (want : List (List ℕ) → Tree → Applied)
    (layers other : List (List ℕ)) → layers ≡ other → IfSome o
    (λ files. IsAnswer read_cause result (want layers files))
    → IfSome o (λ files. IsAnswer read_cause result (want other files))
same_layers o result want layers other same h = let P : List (List ℕ)
    → Type 0 = λ ls. IfSome o (λ files. IsAnswer read_cause result (want ls files)) in subst P same h

pub same_layers_refused : (o : Option Tree) (fault : ReadFault) (want : List (List ℕ) → Tree → Applied)
    (layers other : List (List ℕ)) → layers ≡ other → IfSome o
    (λ files. IsAnswer {A = List Variable} read_cause (Err fault) (want layers files))
    → IfSome o (λ files. IsAnswer {A = List Variable} read_cause (Err fault) (want other files))
same_layers_refused o fault want layers other same h = same_layers o (Err fault) want layers other same h

-- the path folders of the same phase
pub same_when : (o : Option Tree) (when other : When) (layers : List (List ℕ)) (env new : List Variable)
    → when ≡ other → IfSome o (λ files. new ≡ with_paths when files layers env)
    → IfSome o (λ files. new ≡ with_paths other files layers env)
same_when o when other layers env new same h = let P : When
    → Type 0 = λ w. IfSome o (λ files. new ≡ with_paths w files layers env) in subst P same h

module _ (base env : List Variable) (sets done : List (List (List ℕ))) (platform : Option (List EnvFile))
    (same_env : env ≡ base) (same_sets : sets ≡ done) where
  abbrev layers_give : Tree → Applied
  layers_give files = each (set_applied Build files) done base

  same_give : (files : Tree) → each (set_applied Build files) sets env ≡ layers_give files
  same_give files = ap (λ s. each (set_applied Build files) s env) same_sets
      ∙ ap (each (set_applied Build files) done) same_env

  pub build_refused : (o : Option Tree) (fault : ReadFault)
      → IfSome o (λ files. IsAnswer {A = List Variable} read_cause (Err fault)
      (each (set_applied Build files) sets env)) → IfSome o (λ files. IsAnswer {A = List Variable} read_cause
      (Err fault) (build_env done platform base files))
  unfolding build_env
  build_refused None fault h = tt
  build_refused (Some files) fault h =
      let Q : Applied → Type 0 = λ x. IsAnswer {A = List Variable} read_cause (Err fault) x in
      refused_where read_cause (Some files) layers_give (λ made t. Ok (with_platform platform made)) fault
      (subst Q (same_give files) h)

  pub build_made : (o : Option Tree) (made new : List Variable)
      → IfSome o (λ files. each (set_applied Build files) sets env ≡ Ok made) → new ≡ with_platform platform made
      → IfSome o (λ files. build_env done platform base files ≡ Ok new)
  unfolding build_env
  build_made None made new h put = tt
  build_made (Some files) made new h put = ap (λ x. x >>= λ e. Ok (with_platform platform e))
      (sym (same_give files) ∙ h) ∙ ap Ok (sym put)

-- the environment of a launch, by what was applied
pub launch_made : (o : Option Tree) (base env : List Variable) (sets done : List (List (List ℕ))) (phase : Phase)
    (kind : Option (List ℕ)) (result : Applied) → env ≡ base → sets ≡ done → phase ≡ Launch kind
    → IfSome o (λ files. IsAnswer read_cause result (each (set_applied phase files) sets env))
    → IfSome o (λ files. IsAnswer read_cause result (launch_env done kind base files))
unfolding launch_env
launch_made None base env sets done phase kind result same_env same_sets same_phase h = tt
launch_made (Some files) base env sets done phase kind result same_env same_sets same_phase h =
    let Q : Applied → Type 0 = λ x. IsAnswer read_cause result x in
    subst Q (λ k. each (set_applied (same_phase k) files) (same_sets k) (same_env k)) h

pub launch_refused : (o : Option Tree) (base env : List Variable) (sets done : List (List (List ℕ)))
    (phase : Phase) (kind : Option (List ℕ)) (fault : ReadFault) → env ≡ base → sets ≡ done → phase ≡ Launch kind
    → IfSome o (λ files. IsAnswer {A = List Variable} read_cause (Err fault)
    (each (set_applied phase files) sets env)) → IfSome o (λ files. IsAnswer {A = List Variable} read_cause
    (Err fault) (launch_env done kind base files))
launch_refused o base env sets done phase kind fault same_env same_sets same_phase h = launch_made o base env sets
    done phase kind (Err fault) same_env same_sets same_phase h
