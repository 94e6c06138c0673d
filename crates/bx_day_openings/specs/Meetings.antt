-- Where a day and its peer meet.
use Rattle.std.specs.Prelude.{◌≡◌, ℕ, List, ◌∷◌, []}
use Rattle.std.specs.Net.Addr.{ipv4_octets}
use Rattle.std.specs.Net.Socket.{v4_ip, v4_port}
use Rattle.std.specs.declared.net.socket_addr.SocketAddrV4.{SocketAddrV4}
use Rattle.bx_request.specs.declared.request.LinePorts.{LinePorts}

-- this port of 127.0.0.1
abbrev pub IsLoopback : ℕ → SocketAddrV4 → Type 0
IsLoopback port place = (ipv4_octets (v4_ip place) ≡ 127 ∷ 0 ∷ 0 ∷ 1 ∷ []) × (v4_port place ≡ port)

-- the system has given a listener there
abbrev pub IsHeardAt : {L : Type 0} → (SocketAddrV4 → L → Type 0) → ℕ → L → Type 0
IsHeardAt listens port listener = (place : SocketAddrV4) × IsLoopback port place × listens place listener

-- the system has given a connection to it
abbrev pub IsReachedAt : {S : Type 0} → (SocketAddrV4 → S → Type 0) → ℕ → S → Type 0
IsReachedAt reaches port stream = (place : SocketAddrV4) × IsLoopback port place × reaches place stream

-- it has let in this peer by a listener there
abbrev pub IsPeerAt : {L S : Type 0} → (SocketAddrV4 → L → Type 0) → (L → S → Type 0) → ℕ → S → Type 0
IsPeerAt {L = L} listens lets_in port stream = (listener : L) × IsHeardAt listens port listener × lets_in listener stream

-- both ends of a connection at one port, which the listener there was given for the port 0
abbrev pub AreEndsAt : {L S : Type 0} → (SocketAddrV4 → L → Type 0) → (L → S → Type 0) → (SocketAddrV4 → S → Type 0) → S → S → Type 0
AreEndsAt listens lets_in reaches near distant = ((port : ℕ) × IsReachedAt reaches port near) × IsPeerAt listens lets_in 0 distant

-- a socket for datagrams at one port, which speaks with the other alone
abbrev pub IsBetween : {S : Type 0} → (SocketAddrV4 → S → Type 0) → (SocketAddrV4 → S → Type 0) → LinePorts → S → Type 0
IsBetween hears speaks_with line socket =
    ((here : SocketAddrV4) × IsLoopback line.here here × hears here socket) × ((there : SocketAddrV4) × IsLoopback line.there there × speaks_with there socket)

-- a peer on the socket of a path, by a listener that was given for it
abbrev pub IsPeerOn : {L S : Type 0} → (List ℕ → L → Type 0) → (L → S → Type 0) → List ℕ → S → Type 0
IsPeerOn {L = L} listens lets_in path stream = (listener : L) × listens path listener × lets_in listener stream
