-- The flags of a layer (buildpack.md, "Layer Types").
use Rattle.std.specs.Prelude.{false, unwrap_or, Option, IsTrue, IsFalse}
use Rattle.layer_flags.specs.declared.flags.Flags.{Flags}

-- the flags of a row; one that isn't there has none
abbrev pub flags_of : Option Flags → Flags
flags_of row = unwrap_or row (record { launch = false; build = false; cache = false })

-- a launch layer
abbrev pub IsLaunch : Flags → Type 0
IsLaunch flags = IsTrue flags.launch

-- a launch layer that is neither for later buildpacks nor to be cached
abbrev pub IsLaunchAlone : Flags → Type 0
IsLaunchAlone flags = IsTrue flags.launch × IsFalse flags.build × IsFalse flags.cache

-- a launch layer that isn't to be cached
abbrev pub IsLaunchUncached : Flags → Type 0
IsLaunchUncached flags = IsTrue flags.launch × IsFalse flags.cache

-- a launch layer that is to be cached
abbrev pub IsLaunchCached : Flags → Type 0
IsLaunchCached flags = IsTrue flags.launch × IsTrue flags.cache

-- a layer that is to be cached and isn't for launch
abbrev pub IsCachedAlone : Flags → Type 0
IsCachedAlone flags = IsFalse flags.launch × IsTrue flags.cache
