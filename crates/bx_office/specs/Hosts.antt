-- Who asks: the host that a request names, and the origin of the page that has sent it. Both are read whatever their case.
use Rattle.std.specs.Prelude.{◌++◌, ◌==◌, ◌&&◌, ◌||◌, ℕ, Bool, true, false, List, decimal, codes, Option, Some, None}
use Rattle.http1.specs.Text.{eq_ignore_case}
use Rattle.bx_office.specs.Origins.{origin_text}
use Rattle.bx_office.specs.Targets.{past}
use Rattle.bx_office.specs.declared.gate.Address.{Address}
use Rattle.bx_office.specs.declared.gate.Address.TheVariants.{Port, Socket, ProxiedPort, ProxiedSocket}

-- a loopback name with this port; the port of HTTP itself is left out
abbrev pub is_loopback : ℕ → List ℕ → Bool
is_loopback port host = eq_ignore_case host (codes "localhost:" ++ decimal port) || eq_ignore_case host (codes "127.0.0.1:" ++ decimal port) || eq_ignore_case host (codes "[::1]:" ++ decimal port)
    || ((port == 80) && (eq_ignore_case host (codes "localhost") || eq_ignore_case host (codes "127.0.0.1") || eq_ignore_case host (codes "[::1]")))

abbrev pub is_host : Option (List ℕ) → List ℕ → Bool
is_host None host = false
is_host (Some rest) host = eq_ignore_case rest host

-- an origin is one of this host
abbrev pub is_host_of : List ℕ → List ℕ → Bool
is_host_of origin host = is_host (past (codes "http://") origin) host || is_host (past (codes "https://") origin) host

-- the host that a request names is this office, or at a port that of the origin by which a proxy in front of it is asked. Who may open a socket of
-- the file system is said by its mode
abbrev pub is_own_host : Address → Option (List ℕ) → Bool
is_own_host Socket host = true
is_own_host (ProxiedSocket outside) host = true
is_own_host (Port port) None = false
is_own_host (Port port) (Some host) = is_loopback port host
is_own_host (ProxiedPort port outside) None = false
is_own_host (ProxiedPort port outside) (Some host) = is_loopback port host || is_host_of (origin_text outside) host

-- a page of the host that the request names has this origin; at a socket one by TLS too, which a proxy hands on. The origin of a proxy is that of
-- its pages whatever host it names, and at a port no other is one of the host of its origin
abbrev pub is_origin_of : Address → List ℕ → List ℕ → Bool
is_origin_of (Port port) host origin = is_host (past (codes "http://") origin) host
is_origin_of Socket host origin = is_host_of origin host
is_origin_of (ProxiedPort port outside) host origin = eq_ignore_case origin (origin_text outside) || (is_loopback port host && is_host (past (codes "http://") origin) host)
is_origin_of (ProxiedSocket outside) host origin = eq_ignore_case origin (origin_text outside) || is_host_of origin host

-- no page of another origin has sent the request
abbrev pub is_own_origin : Address → Option (List ℕ) → Option (List ℕ) → Bool
is_own_origin address host None = true
is_own_origin address None (Some origin) = false
is_own_origin address (Some host) (Some origin) = is_origin_of address host origin
