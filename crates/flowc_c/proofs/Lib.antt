mod Hosts
