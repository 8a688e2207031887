-- What the options of `create` ask for (platform.md, "creator").
use Rattle.std.specs.Prelude.{List, [], ◌∷◌, ◌<◌, ◌≤◌, ◌^◌, All, codes, length, Option, Some}
use Rattle.cnb_words.specs.Choice as choice
use Rattle.cnb_words.specs.Choice.{choice_values}
use Rattle.cnb_words.specs.Options.{check_names}
use Rattle.cnb_words.specs.OptionValues.{◌>>=◌, caches_of, image_of, optional_image_of, path_of}
use Rattle.cnb_words.specs.declared.options.Given.{Given}
use Rattle.cnb_words.specs.declared.create.CreateWords.{CreateWords}
use Rattle.cnb_words.specs.declared.create.ImageOptions.{ImageOptions}

-- what an image is made of, and what it replaces
abbrev pub image_options : List Given → Option ImageOptions
image_options options = do
  store ← path_of (codes "--store") options
  run ← image_of (codes "--run") options
  launcher ← path_of (codes "--launcher") options
  image ← image_of (codes "--image") options
  previous ← optional_image_of (codes "--previous") options
  caches ← caches_of options
  Some (record { store = store; run = run; launcher = launcher; image = image; previous = previous; caches = caches })

-- what the options ask for, where each that must be given is
abbrev pub create_values : List Given → Option CreateWords
create_values options = do
  detect ← choice_values options
  layers ← path_of (codes "--layers") options
  image ← image_options options
  Some (record {
    detect = detect;
    layers = layers;
    store = image.store;
    run = image.run;
    launcher = image.launcher;
    image = image.image;
    previous = image.previous;
    caches = image.caches;
  })

-- no other option stands, none stands twice that mustn't, and each that must be given is
abbrev pub create_in : List Given → Option CreateWords
create_in options = do
  checked ← check_names
      (codes "--order" ∷ codes "--buildpacks" ∷ codes "--app" ∷ codes "--platform" ∷ codes "--work" ∷ codes "--layers"
      ∷ codes "--store" ∷ codes "--run" ∷ codes "--launcher" ∷ codes "--image" ∷ codes "--previous"
      ∷ codes "--workers" ∷ [])
      (codes "--cache" ∷ []) options
  create_values options

-- paths of at most 4,096 bytes, and fewer than 2 ^ 32 caches
pub record ImageKeepsLimits (image : ImageOptions) : Type 0 where
  pub store : length image.store ≤ 4096
  pub launcher : length image.launcher ≤ 4096
  pub caches : All (λ path. length path ≤ 4096) image.caches
  pub few_caches : length image.caches < 2 ^ 32

-- limits of a choice, paths of at most 4,096 bytes, and fewer than 2 ^ 32 caches
pub record KeepsLimits (words : CreateWords) : Type 0 where
  pub detect : choice.KeepsLimits words.detect
  pub layers : length words.layers ≤ 4096
  pub store : length words.store ≤ 4096
  pub launcher : length words.launcher ≤ 4096
  pub caches : All (λ path. length path ≤ 4096) words.caches
  pub few_caches : length words.caches < 2 ^ 32
